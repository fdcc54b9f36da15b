-- For the judge: the sums of fields are those of the record that they were read from, no sums of any fields or record are large,
-- and sums rise with what is summed.
use mathlib.Core.Path.{◌≡◌, ap, ap₂, sym, ◌∙◌}
use mathlib.Core.Bool.{Bool, true, false}
use mathlib.Core.List.{List}
use Prim.Native.Nat.{ℕ, ◌+◌, ◌*◌, ◌≤◌, ◌<◌}
use native.Mathlib.Nat.{le_refl}
use native.Mathlib.Omega.{arith}
use Rattle.hydrogen.specs.Floors.{is_whole, floor_at}
use Rattle.hydrogen.proofs.Laws.{floor-most}
use Rattle.reading.specs.Amounts.{most_mass}
use Rattle.reading.specs.Analytes.{analyte_of}
use Rattle.reading.proofs.AmountRangeLaws.{range-ordered, range-most}
use Rattle.record.specs.declared.TestedRecord.{TestedRecord}
use Rattle.record.specs.Record.{readings, ammonium, sodium, nitrate, chloride, total_nitrogen, most_conductivity, most_alkalinity, ph_of, conductivity_of, alkalinity_of, reading_at}
use Rattle.record.specs.Tested.{Fields, Holds, fields_in}
use Rattle.record.proofs.AcceptedLaws.{Valid}
use Rattle.solution.specs.Ions.{cation_charge, anion_charge, conducted, strength_added, alkalinity_charge, alkalinity_charge_number, hydrogen_conductance, hydrogen_charge_number}
use Rattle.solution.specs.Solutions.{range_at, least_at, greatest_at, gap, alkalinity_conducts, measured_of, sums_with, sum_ranges_of}
use Rattle.solution.specs.ByValue.{end_of, sums_held, sum_ranges_held, sum_ranges_by}
use Rattle.solution.specs.Steps.{most_hydrogen, AtMost, Ranged, Bounded}
use Rattle.solution.proofs.HeldLaws.{held-known, held-sum, held-end, held_small}
use Rattle.solution.proofs.RangeLaws.{in-ranges, ranges-held}
use Rattle.solution.proofs.SameLaws.{same-sums, same-ranges}
use Rattle.solution.proofs.BoundLaws as bounds

-- greater amounts, hydrogen and fields have greater sums
pub sums-rise : (a b : ℕ → ℕ) → ((i : ℕ) → i < readings → a i ≤ b i) → (h k t u m n : ℕ) → h ≤ k → t ≤ u → m ≤ n → AtMost (sums_with a h t m) (sums_with b k u n)
sums-rise a b rise = bounds.sums-rise a b rise

-- of any fields
pub ranges-bounded : (f : Fields) (floor : ℕ) → Bounded (sum_ranges_by f floor)
ranges-bounded f floor = bounds.ranges-bounded f floor

-- of an accepted record
pub record-bounded : (s : List ℕ) → Valid s → Bounded (sum_ranges_of s)
record-bounded s v =
    let floor = floor_at (ph_of s) in
    let above = bounds.gap-small (is_whole (ph_of s)) in
    record {
      ordered =
          bounds.sums-rise (least_at s) (greatest_at s) (λ i l. range-ordered (analyte_of (reading_at s i)))
          floor _ (alkalinity_of s) (alkalinity_of s) (conductivity_of s) (conductivity_of s) (omega arith) (le_refl _) (le_refl _);
      most =
          bounds.sums-rise (greatest_at s) (λ i. most_mass) (λ i l. range-most (reading_at s i))
          _ most_hydrogen (alkalinity_of s) most_alkalinity (conductivity_of s) most_conductivity
          (omega (arith, floor-most (ph_of s) v.ph.0 v.ph.1)) v.alkalinity v.measured.1;
      least_tenths = omega arith;
      most_tenths = omega arith;
    }

module _ (s : List ℕ) (own : TestedRecord) (floor : ℕ) (v : Valid s) (h : Holds s own) (f : floor ≡ floor_at (ph_of s)) where
  -- an accepted record is within its ranges
  own-ranges : Ranged (fields_in own) (floor + 1)
  own-ranges =
      record {
        hydrogen = rw f (omega (arith, floor-most (ph_of s) v.ph.0 v.ph.1));
        measured = rw h.conductivity v.measured.1;
        alkalinity = rw h.alkalinity v.alkalinity;
        small = held_small s own h;
      }

  -- at either end
  own-sums : (greatest : Bool) {x y : ℕ} → x ≡ y
      → sums_held (fields_in own) greatest x ≡ sums_with (λ i. end_of greatest (range_at s i)) y (alkalinity_of s) (conductivity_of s)
  own-sums greatest e =
      let amount = held-end s own h greatest in
      let E = ap₂ (λ (x y : ℕ). x + y) (ap alkalinity_conducts h.alkalinity) (held-sum s own h greatest conducted) in
      let I = ap₂ (λ (x y : ℕ). alkalinity_charge_number * alkalinity_charge x + y) h.alkalinity (held-sum s own h greatest strength_added) in
      same-sums
      (record {
        cations = ap₂ (λ (x y : ℕ). x + y) e (held-sum s own h greatest cation_charge);
        anions = ap₂ (λ (x y : ℕ). x + y) (ap alkalinity_charge h.alkalinity) (held-sum s own h greatest anion_charge);
        calculated = ap₂ (λ (x y : ℕ). hydrogen_conductance * x + y) e E;
        measured = ap measured_of h.conductivity;
        strength = ap₂ (λ (x y : ℕ). hydrogen_charge_number * x + y) e I;
        sodium = ap (λ (n : ℕ). cation_charge sodium * n) (amount sodium (omega arith));
        chloride = ap (λ (n : ℕ). anion_charge chloride * n) (amount chloride (omega arith));
        mineral = ap₂ (λ (x y : ℕ). x + y) (amount nitrate (omega arith)) (amount ammonium (omega arith));
        total = amount total_nitrogen (omega arith);
      })

  own-both : sum_ranges_held (fields_in own) floor ≡ sum_ranges_of s
  own-both =
      let whole = ap is_whole h.ph in
      same-ranges (held-known s own h) whole (own-sums false f) (own-sums true (cc (f, ap gap whole)))

  pub fields_give : sum_ranges_by (fields_in own) floor ≡ sum_ranges_of s
  fields_give = sym (ranges-held (fields_in own) floor (in-ranges (fields_in own) floor own-ranges)) ∙ own-both
