-- `activity::exponent::top` meets its contract: 0.3 s² is at most s/(1+s), so the difference loses nothing.
use native.Mathlib.Omega.{arith}
use Rattle.activity.specs.Exponent.{top, million}
use Rattle.activity.proofs.Grows.{over_zero}
use Rattle.activity.proofs.exponent.top.Goals as goal

pub returns-clause-answer : goal.returns-clause-answer
unfolding top
returns-clause-answer c = omega (arith, over_zero c.args.root.multiples million (omega arith))
