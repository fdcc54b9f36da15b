-- Greater amounts, hydrogen and fields give greater sums; so none of fields is above that of the greatest fields, and those fit 64
-- bits.
use mathlib.Core.Path.{◌≡◌, refl}
use mathlib.Core.Bool.{Bool, true, false, cond}
use Prim.Native.Nat.{ℕ, ◌+◌, ◌*◌, ◌≤◌, ◌<◌, zero-le}
use native.Mathlib.Nat.{mul-le-mul_left, mul-le-mul_right, add-le-add, le_refl, lt_of_le_of_lt}
use native.Mathlib.Omega.{arith}
use Rattle.hydrogen.specs.Floors.{is_whole}
use Rattle.reading.specs.Amounts.{most_mass}
use Rattle.reading.proofs.AmountRangeLaws.{range-ordered}
use Rattle.record.specs.Record.{readings, ammonium, sodium, nitrate, chloride, total_nitrogen, most_conductivity, most_alkalinity}
use Rattle.record.specs.Tested.{Fields, analyte_at}
use Rattle.solution.specs.Ions.{cation_charge, anion_charge, conducted, strength_added, hydrogen_conductance, hydrogen_charge_number, alkalinity_conductance, alkalinity_charge_number, alkalinity_unit, sum}
use Rattle.solution.specs.Solutions.{gap, measured_unit, Sums, sums_with}
use Rattle.solution.specs.ByValue.{amount_at, sums_held, sum_ranges_held, no_sums, no_sum_ranges, in_ranges, sum_ranges_by}
use Rattle.solution.specs.Steps.{most_hydrogen, Ranged, AtMost, most_sums, Bounded, Fits}
use Rattle.solution.proofs.SumLaws.{sum-le}
use Rattle.solution.proofs.IonLaws.{most-fits}
use Rattle.solution.proofs.RangeLaws.{ranged}

module _ (a b : ℕ → ℕ) (rise : (i : ℕ) → i < readings → a i ≤ b i) where
  weighed : (w : ℕ → ℕ) → sum (λ i. w i * a i) readings ≤ sum (λ i. w i * b i) readings
  weighed w = sum-le (λ i. w i * a i) (λ i. w i * b i) readings (λ i l. mul-le-mul_left (w i) (rise i l))

  pub sums-rise : (h k t u m n : ℕ) → h ≤ k → t ≤ u → m ≤ n → AtMost (sums_with a h t m) (sums_with b k u n)
  sums-rise h k t u m n p q r =
      let alkalinity = mul-le-mul_right alkalinity_unit q in
      record {
        cations = add-le-add p (weighed cation_charge);
        anions = add-le-add alkalinity (weighed anion_charge);
        calculated = add-le-add (mul-le-mul_left hydrogen_conductance p) (add-le-add (mul-le-mul_left alkalinity_conductance alkalinity) (weighed conducted));
        measured = mul-le-mul_right measured_unit r;
        strength = add-le-add (mul-le-mul_left hydrogen_charge_number p) (add-le-add (mul-le-mul_left alkalinity_charge_number alkalinity) (weighed strength_added));
        sodium = mul-le-mul_left (cation_charge sodium) (rise sodium (omega arith));
        chloride = mul-le-mul_left (anion_charge chloride) (rise chloride (omega arith));
        mineral = add-le-add (rise nitrate (omega arith)) (rise ammonium (omega arith));
        total = rise total_nitrogen (omega arith);
      }

-- at either end
end-most : (f : Fields) (greatest : Bool) (hydrogen : ℕ) → Ranged f hydrogen → AtMost (sums_held f greatest hydrogen) most_sums
end-most f greatest hydrogen r =
    sums-rise (amount_at greatest f.analytes) (λ i. most_mass) (r.small.most greatest)
    hydrogen most_hydrogen f.alkalinity most_alkalinity f.conductivity most_conductivity
    r.hydrogen r.alkalinity r.measured

pub end_fits : (f : Fields) (greatest : Bool) (hydrogen : ℕ) → Ranged f hydrogen → Fits (sums_held f greatest hydrogen)
end_fits f greatest hydrogen r =
    let b = end-most f greatest hydrogen r in
    record {
      charges = lt_of_le_of_lt (add-le-add b.cations b.anions) most-fits.charges;
      calculated = lt_of_le_of_lt b.calculated most-fits.calculated;
      strength = lt_of_le_of_lt b.strength most-fits.strength;
    }

-- less hydrogen is in range too
pub less-ranged : (f : Fields) (h k : ℕ) → h ≤ k → Ranged f k → Ranged f h
less-ranged f h k l r = record { hydrogen = omega (arith, r.hydrogen); measured = r.measured; alkalinity = r.alkalinity; small = r.small }

pub gap-small : (b : Bool) → gap b ≤ 1
gap-small true = omega arith
gap-small false = omega arith

pub held-bounded : (f : Fields) (floor : ℕ) → Ranged f (floor + 1) → Bounded (sum_ranges_held f floor)
held-bounded f floor r =
    let above = gap-small (is_whole f.ph) in
    record {
      ordered =
          sums-rise (amount_at false f.analytes) (amount_at true f.analytes) (λ i l. range-ordered (analyte_at f.analytes i))
          floor _ f.alkalinity f.alkalinity f.conductivity f.conductivity (omega arith) (le_refl _) (le_refl _);
      most = end-most f true _ (less-ranged f _ (floor + 1) (omega arith) r);
      least_tenths = omega arith;
      most_tenths = omega arith;
    }

none-most : (x : Sums) → AtMost no_sums x
none-most x =
    record {
      cations = zero-le;
      anions = zero-le;
      calculated = zero-le;
      measured = zero-le;
      strength = zero-le;
      sodium = zero-le;
      chloride = zero-le;
      mineral = zero-le;
      total = zero-le;
    }

pub none-bounded : Bounded no_sum_ranges
none-bounded = record { ordered = none-most no_sums; most = none-most most_sums; least_tenths = refl; most_tenths = refl }

-- of any fields
pub ranges-bounded : (f : Fields) (floor : ℕ) → Bounded (sum_ranges_by f floor)
unfolding sum_ranges_by
ranges-bounded f floor = go (in_ranges f floor) refl
  where
    go : (b : Bool) → in_ranges f floor ≡ b → Bounded (cond b (sum_ranges_held f floor) no_sum_ranges)
    go true e = held-bounded f floor (ranged f floor e)
    go false e = none-bounded
