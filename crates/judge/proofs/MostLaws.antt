-- No verdict's number is above 4.
use mathlib.Core.Bool.{Bool, true, false}
use mathlib.Core.List.{List}
use Prim.Native.Nat.{ℕ, ◌≤◌}
use lib.Dec.{lit≤}
use Rattle.solution.specs.Solutions.{ions_known}
use Rattle.judge.specs.declared.window.Window.{Window}
use Rattle.judge.specs.Verdicts.{applied}
use Rattle.judge.specs.IonBalance.{balance_applies_to}
use Rattle.judge.specs.Ratios.{ratio_applies_to, ratio_known, nitrogen_applies_to, nitrogen_known}
use Rattle.judge.specs.Judgements.{verdicts_of}
use Rattle.judge.proofs.Deciding.{Decided, deciding}

decided-most : {w : Window} {e x₀ x₁ y₀ y₁ n : ℕ} → Decided w e x₀ x₁ y₀ y₁ n → n ≤ 4
decided-most (Decided.over a) = lit≤ tt
decided-most (Decided.under a) = lit≤ tt
decided-most (Decided.parted a b c) = lit≤ tt
decided-most (Decided.parted' a b c) = lit≤ tt
decided-most (Decided.within a b) = lit≤ tt

applied-most : (applies known : Bool) {n : ℕ} → n ≤ 4 → applied applies known n ≤ 4
applied-most true true h = h
applied-most true false h = lit≤ tt
applied-most false true h = lit≤ tt
applied-most false false h = lit≤ tt

module _ (s : List ℕ) where
  pub verdicts-most : ((verdicts_of s).balance ≤ 4) × ((verdicts_of s).conductivity ≤ 4) × ((verdicts_of s).ratio ≤ 4) × ((verdicts_of s).nitrogen ≤ 4)
  verdicts-most = (
    applied-most (balance_applies_to s) (ions_known s) (decided-most (deciding _ _ _ _ _ _)),
    applied-most true (ions_known s) (decided-most (deciding _ _ _ _ _ _)),
    applied-most (ratio_applies_to s) (ratio_known s) (decided-most (deciding _ _ _ _ _ _)),
    applied-most (nitrogen_applies_to s) (nitrogen_known s) (decided-most (deciding _ _ _ _ _ _)),
  )
