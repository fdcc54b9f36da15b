-- The sums of ranged fields as the code makes them, at one end and at both: its products and sums fit 64 bits, and the whole is
-- that of the definition.
use mathlib.Core.Path.{◌≡◌, ap, ◌∙◌}
use mathlib.Core.Bool.{Bool, false, true}
use Prim.Native.Nat.{ℕ, ◌+◌, ◌*◌, ◌^◌, ◌<◌}
use native.Mathlib.Omega.{arith}
use Rattle.hydrogen.specs.Floors.{is_whole}
use Rattle.record.specs.Record.{ions, readings, all_below}
use Rattle.record.specs.Tested.{Fields}
use Rattle.activity.specs.declared.IonicStrength.{IonicStrength}
use Rattle.solution.specs.declared.Charge.{Charge}
use Rattle.solution.specs.declared.Conductivity.{Conductivity}
use Rattle.solution.specs.declared.SodiumChloride.{SodiumChloride}
use Rattle.solution.specs.declared.Nitrogen.{Nitrogen}
use Rattle.solution.specs.declared.Sums.{Sums}
use Rattle.solution.specs.declared.ions.Eight.{Eight}
use Rattle.solution.specs.Ions.{hydrogen_conductance, hydrogen_charge_number, alkalinity_charge, alkalinity_conductance, alkalinity_charge_number, strength_added, sum}
use Rattle.solution.specs.Solutions.{gap, measured_of, sums_in, ends_in}
use Rattle.solution.specs.ByValue.{there_at, amount_at, sums_held, sum_ranges_held}
use Rattle.solution.specs.Steps.{Ranged, IonSums, RatioOf, NitrogenOf}
use Rattle.solution.proofs.SameLaws.{same-sums, same-ranges}
use Rattle.solution.proofs.BoundLaws.{end_fits, less-ranged, gap-small}

module _ (f : Fields) (greatest : Bool) (hydrogen : Charge) (r : Ranged f hydrogen.0) {eight : Eight} (e : IonSums greatest f.analytes eight) where
  pub cations-fit : hydrogen.0 + eight.cations.0 < 2 ^ 64
  cations-fit = omega (arith, end_fits f greatest hydrogen.0 r)

  module _ {alkalinity : Charge} (a : alkalinity.0 ≡ alkalinity_charge f.alkalinity) where
    pub anions-fit : alkalinity.0 + eight.anions.0 < 2 ^ 64
    anions-fit = omega (arith, end_fits f greatest hydrogen.0 r)

    pub calculated-fits : hydrogen_conductance * hydrogen.0 + (alkalinity_conductance * alkalinity.0 + eight.conductivity.0) < 2 ^ 64
    calculated-fits = omega (arith, end_fits f greatest hydrogen.0 r)

    pub strength-fits : {ions : IonicStrength} → ions.0 ≡ sum (λ i. strength_added i * amount_at greatest f.analytes i) readings
        → hydrogen_charge_number * hydrogen.0 + (alkalinity_charge_number * alkalinity.0 + ions.0) < 2 ^ 64
    strength-fits i = omega (arith, end_fits f greatest hydrogen.0 r)

    pub made : {cations anions : Charge} {calculated measured : Conductivity} {ions strength : IonicStrength} {ratio : SodiumChloride} {nitrogen : Nitrogen}
        → cations.0 ≡ hydrogen.0 + eight.cations.0
        → anions.0 ≡ alkalinity.0 + eight.anions.0
        → calculated.0 ≡ hydrogen_conductance * hydrogen.0 + (alkalinity_conductance * alkalinity.0 + eight.conductivity.0)
        → measured.0 ≡ measured_of f.conductivity
        → ions.0 ≡ sum (λ i. strength_added i * amount_at greatest f.analytes i) readings
        → strength.0 ≡ hydrogen_charge_number * hydrogen.0 + (alkalinity_charge_number * alkalinity.0 + ions.0)
        → RatioOf greatest f.analytes ratio
        → NitrogenOf greatest f.analytes nitrogen
        → sums_in (record { cations = cations; anions = anions; calculated = calculated; measured = measured; strength = strength; ratio = ratio; nitrogen = nitrogen })
        ≡ sums_held f greatest hydrogen.0
    made c n k m i s q g =
        same-sums
        (record {
          cations = omega arith;
          anions = omega arith;
          calculated = omega arith;
          measured = m;
          strength = omega arith;
          sodium = q.sodium;
          chloride = q.chloride;
          mineral = g.mineral;
          total = g.total;
        })

-- both ends
module _ (f : Fields) (floor : ℕ) (r : Ranged f (floor + 1)) where
  pub lowest-ranged : Ranged f floor
  lowest-ranged = less-ranged f floor (floor + 1) (omega arith) r

  module _ {whole : Bool} (w : whole ≡ is_whole f.ph) {hydrogen : Charge} (h : hydrogen.0 ≡ floor + gap whole) where
    pub highest-ranged : Ranged f hydrogen.0
    highest-ranged = less-ranged f hydrogen.0 (floor + 1) (omega (arith, gap-small whole)) r

    pub both-made : {known : Bool} {least most : Sums} → known ≡ all_below (there_at f.analytes) ions
        → sums_in least ≡ sums_held f false floor
        → sums_in most ≡ sums_held f true hydrogen.0
        → ends_in known whole least most ≡ sum_ranges_held f floor
    both-made k l m = same-ranges k w l (m ∙ ap (sums_held f true) (h ∙ ap (λ (b : Bool). floor + gap b) w))
