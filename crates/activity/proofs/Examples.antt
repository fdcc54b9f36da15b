-- Worked examples: the bracket of a water without ions, of a root that is a multiple of 10^−6, of the sample that document 01 prints and
-- of the strongest record there is, and that there is none above 0.08 mol/L. The definitions are never computed; the laws are.
use mathlib.Core.Path.{◌≡◌, refl, sym, ap₂, ◌∙◌}
use mathlib.Core.Logic.{inr}
use Prim.Native.Nat.{ℕ, ◌+◌, ◌/◌, ◌≤◌, ◌<◌}
use native.Mathlib.Omega.{arith}
use lib.ListN.{get_or}
use Rattle.std.specs.Prelude.{None}
use Rattle.std.specs.Int.{div_ceil}
use Rattle.activity.specs.Strength.{strongest, square, lower_root, upper_root}
use Rattle.activity.specs.Exponent.{top, million}
use Rattle.activity.specs.Brackets.{between, correction_of}
use Rattle.activity.specs.Steps.{table_length}
use Rattle.activity.specs.declared.table.TheConstants.{FLOORS}
use Rattle.activity.proofs.RootLaws.{lower-root-is, upper-root-same, upper-root-is}
use Rattle.activity.proofs.ExponentLaws.{thousandth_of, lower-exponent-is, upper-exponent-is}
use Rattle.activity.proofs.FloorTable.{floor-entry}
use Rattle.activity.proofs.Ends.{lower-end-from, upper-end-from}
use Rattle.activity.proofs.Laws.{bracket-given, bracket-none}

-- the two exponents, divided
unfoldable below : ℕ → ℕ
below k = top k million / thousandth_of k

unfoldable above : ℕ → ℕ
above k = div_ceil (top k million) (thousandth_of k)

-- one strength, its roots known
module _ (w k m : ℕ) (weak : w ≤ strongest) (is-k : k ≡ lower_root w) (is_m : m ≡ upper_root w)
    (low : below k < table_length) (high : above m < table_length) where
  shown : correction_of w w ≡ between (get_or FLOORS (above m) 0) (get_or FLOORS (below k) 0 + 1)
  unfolding below above
  shown =
      bracket-given w w weak weak
      ∙ sym
      (ap₂ between
      (lower-end-from w is_m (upper-exponent-is m (top m million) refl) (sym (floor-entry (above m) high)))
      (upper-end-from w is-k (lower-exponent-is k (top k million) refl) (sym (floor-entry (below k) low))))

-- the root is k × 10^−6
at-multiple : (w k : ℕ) → w ≤ strongest → square k ≡ w → below k < table_length → above k < table_length
    → correction_of w w ≡ between (get_or FLOORS (above k) 0) (get_or FLOORS (below k) 0 + 1)
at-multiple w k weak e low high =
    let is : k ≡ lower_root w = lower-root-is w k (omega arith) (omega arith) in
    shown w k k weak is (upper-root-same w k is (omega arith)) low high

-- the root is above k × 10^−6 and below the next multiple
past-multiple : (w k : ℕ) → w ≤ strongest → square k < w → w < square (k + 1) → below k < table_length → above (k + 1) < table_length
    → correction_of w w ≡ between (get_or FLOORS (above (k + 1)) 0) (get_or FLOORS (below k) 0 + 1)
past-multiple w k weak over under low high =
    shown w k (k + 1) weak (lower-root-is w k (omega arith) under) (upper-root-is w k over (omega arith)) low high

no-ions : correction_of 0 0 ≡ between 1000000000 1000000001
unfolding below above top
no-ions = at-multiple 0 0 (omega arith) refl (omega arith) (omega arith)

-- s is 0.001: e is between 0 and 1 thousandth
thousandth-root : correction_of 2000000000 2000000000 ≡ between 997700063 1000000001
unfolding below above top
thousandth-root = at-multiple 2000000000 1000 (omega arith) refl (omega arith) (omega arith)

-- s is between 0.011040 and 0.011041, e between 10 and 11 thousandths
printed-sample : correction_of 243780000000 243780000000 ≡ between 974989637 977237221
unfolding below above top
printed-sample = past-multiple 243780000000 11040 (omega arith) (omega arith) (omega arith) (omega arith) (omega arith)

strongest-record : correction_of 155838000000000 155838000000000 ≡ between 638263486 639734836
unfolding below above top
strongest-record = past-multiple 155838000000000 279139 (omega arith) (omega arith) (omega arith) (omega arith) (omega arith)

too-strong : correction_of 0 160000000000001 ≡ None
too-strong = bracket-none 0 160000000000001 (inr (omega arith))
