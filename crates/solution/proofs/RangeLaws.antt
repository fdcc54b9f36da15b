-- The test of the ranges and its facts, and the sums by how it ends.
use mathlib.Core.Path.{◌≡◌}
use mathlib.Core.Bool.{Bool, true, false, ◌&&◌}
use mathlib.Core.List.{List}
use Prim.Native.Nat.{ℕ, ◌+◌, ◌≤◌, ◌<◌}
use native.Mathlib.Nat.{le_trans}
use native.Mathlib.Omega.{arith}
use lib.Dec.{leb}
use borrow.Author.Tests.{le-leb, leb-true}
use Rattle.refusal.proofs.Testing.{both}
use Rattle.hydrogen.specs.Floors.{most_floor}
use Rattle.reading.specs.declared.Analyte.{Analyte}
use Rattle.reading.specs.Amounts.{most_mass}
use Rattle.reading.proofs.AmountRangeLaws.{range-ordered}
use Rattle.record.specs.Record.{readings, most_conductivity, most_alkalinity}
use Rattle.record.specs.Tested.{Fields, analyte_at}
use Rattle.record.proofs.AllBelow.{all-each, each_all}
use Rattle.solution.specs.ByValue.{amount_at, are_small, in_ranges, sum_ranges_by, sum_ranges_held, no_sum_ranges}
use Rattle.solution.specs.Steps.{Small, Ranged}

module _ (analytes : List Analyte) where
  small-are : Small analytes → are_small analytes ≡ true
  unfolding are_small
  small-are h = each_all (λ i. leb (amount_at true analytes i) most_mass) readings (λ i l. le-leb _ _ (h.most true i l))

  -- the test is of the greatest amounts, and no least one is above its greatest
  are-small : are_small analytes ≡ true → Small analytes
  unfolding are_small
  are-small t = record { most = small }
    where
      most : (i : ℕ) → i < readings → amount_at true analytes i ≤ most_mass
      most i l = leb-true _ _ (all-each (λ i. leb (amount_at true analytes i) most_mass) readings t i l)

      small : (greatest : Bool) (i : ℕ) → i < readings → amount_at greatest analytes i ≤ most_mass
      small true i l = most i l
      small false i l = le_trans (range-ordered (analyte_at analytes i)) (most i l)

module _ (f : Fields) (floor : ℕ) where
  pub ranged : in_ranges f floor ≡ true → Ranged f (floor + 1)
  unfolding in_ranges
  ranged t =
      let a = both (leb floor most_floor) (leb f.conductivity most_conductivity && (leb f.alkalinity most_alkalinity && are_small f.analytes)) t in
      let b = both (leb f.conductivity most_conductivity) (leb f.alkalinity most_alkalinity && are_small f.analytes) a.1 in
      let c = both (leb f.alkalinity most_alkalinity) (are_small f.analytes) b.1 in
      record {
        hydrogen = omega (arith, leb-true floor most_floor a.0);
        measured = leb-true f.conductivity most_conductivity b.0;
        alkalinity = leb-true f.alkalinity most_alkalinity c.0;
        small = are-small f.analytes c.1;
      }

  pub in-ranges : Ranged f (floor + 1) → in_ranges f floor ≡ true
  unfolding in_ranges
  in-ranges r =
      rw (
        le-leb floor most_floor (omega (arith, r.hydrogen)),
        le-leb f.conductivity most_conductivity r.measured,
        le-leb f.alkalinity most_alkalinity r.alkalinity,
        small-are f.analytes r.small,
      )

  pub ranges-none : in_ranges f floor ≡ false → no_sum_ranges ≡ sum_ranges_by f floor
  unfolding sum_ranges_by
  ranges-none e = rw e

  pub ranges-held : in_ranges f floor ≡ true → sum_ranges_held f floor ≡ sum_ranges_by f floor
  unfolding sum_ranges_by
  ranges-held e = rw e
