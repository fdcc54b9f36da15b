-- The bracket of y² of sums that are not large: one is given, and it is above 0, in order, and hardly above 1.
use mathlib.Core.Path.{◌≡◌}
use Prim.Native.Nat.{ℕ, ◌+◌, ◌*◌, ◌≤◌, ◌<◌}
use native.Mathlib.Nat.{le_trans}
use native.Mathlib.Omega.{arith}
use lib.Dec.{lit≤}
use Rattle.activity.specs.declared.Correction.{Correction}
use Rattle.std.specs.Prelude.{Option, None, Some}
use Rattle.activity.specs.Strength.{strongest}
use Rattle.activity.specs.Brackets.{between, unit, correction_of}
use Rattle.activity.proofs.Laws.{bracket-given, lower-positive, ends-ordered, lower-most, upper-most}
use Rattle.solution.specs.Ions.{cation_factor, anion_factor, charge_number, sum}
use Rattle.solution.specs.Solutions.{SumRanges}
use Rattle.solution.specs.Steps.{most_sums, Bounded}
use Rattle.judge.specs.Ranges.{correction_in}
use Rattle.judge.specs.Steps.{to_odd}

-- the strongest record is not too strong
most-weak : most_sums.strength ≤ strongest
unfolding sum cation_factor anion_factor charge_number
most-weak = lit≤ tt

module _ (x : SumRanges) (b : Bounded x) where
  pub weak : x.most.strength ≤ strongest
  weak = le_trans b.most.strength most-weak

  pub weaker : x.least.strength ≤ strongest
  weaker = le_trans b.ordered.strength weak

  correction-given : correction_of x.least.strength x.most.strength ≡ between (correction_in x).least (correction_in x).most
  correction-given = bracket-given x.least.strength x.most.strength weaker weak

  pub correction-some : 0 < (correction_in x).least
  correction-some = lower-positive x.most.strength weak

  pub correction-ordered : (correction_in x).least ≤ (correction_in x).most
  correction-ordered = ends-ordered x.least.strength x.most.strength b.ordered.strength weak

  pub correction-least : (correction_in x).least ≤ unit + 1
  correction-least = lower-most x.most.strength

  pub correction-most : (correction_in x).most ≤ unit + 1
  correction-most = upper-most x.least.strength

-- ---- as the code is handed it: an answer that is a bracket is this one, and there is no other answer
module _ (x : SumRanges) (b : Bounded x) {given : Option Correction} (is : given ≡ correction_of x.least.strength x.most.strength) where
  pub not-strong : given ≡ None → ⊥
  not-strong e = let z : ◌≡◌ {A = ℕ} 0 1 = cc (correction-given x b) in absurd (omega arith)

  module _ {told : Correction} (e : given ≡ Some told) where
    abbrev least : ℕ
    least = told.least

    abbrev most : ℕ
    most = told.most

    least-is : least ≡ (correction_in x).least
    least-is = cc (correction-given x b)

    most-is : most ≡ (correction_in x).most
    most-is = cc (correction-given x b)

    -- there is room for the products by its ends
    pub least-fits : (least ≤ unit + 1) × (x.least.calculated ≤ most_sums.calculated)
    least-fits = (rw least-is (correction-least x b), le_trans b.ordered.calculated b.most.calculated)

    pub most-fits : (most ≤ unit + 1) × (x.most.calculated ≤ most_sums.calculated)
    most-fits = (rw most-is (correction-most x b), b.most.calculated)

    -- what was made by one of its ends
    pub least-made : {n : ℕ} → n ≡ to_odd (least * x.least.calculated) → n ≡ to_odd ((correction_in x).least * x.least.calculated)
    least-made e = rw least-is at e

    pub most-made : {n : ℕ} → n ≡ to_odd (most * x.most.calculated) → n ≡ to_odd ((correction_in x).most * x.most.calculated)
    most-made e = rw most-is at e
