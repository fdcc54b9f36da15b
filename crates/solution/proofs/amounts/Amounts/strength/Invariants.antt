use mathlib.Core.Path.{◌≡◌}
use Prim.Native.Nat.{◌*◌}
use Rattle.solution.specs.Ions.{strength_added, sum}
use Rattle.solution.specs.ByValue.{amount_at}
use Rattle.solution.specs.Ends.{is_greatest}
use Rattle.solution.proofs.amounts.Amounts.strength.Given as goal

abbrev pub invariant-loop-i : goal.invariant-loop-i
invariant-loop-i l = l.strength.0 ≡ sum (λ k. strength_added k * amount_at (is_greatest l.self.end) l.self.analytes k) l.i
