-- By how the two tests ended.
use mathlib.Core.Path.{ap}
use Rattle.refusal.specs.Outcome.Outcome.{given}
use Rattle.refusal.proofs.Outcomes.{handed-on}
use Rattle.agreement.specs.Compared.{compared_of}
use Rattle.agreement.proofs.compare.Goals as goal

pub returns-in_err-one : goal.returns-in_err-one
unfolding compared_of
returns-in_err-one c = rw c.in_err-one.was (handed-on _ _ c.from_residual.ensures.1)

pub returns-in_err-other : goal.returns-in_err-other
unfolding compared_of
returns-in_err-other c = rw (c.in_ok-one.was, c.in_err-other.was) (handed-on _ _ c.from_residual-in_err-other.ensures.1)

pub returns : goal.returns
unfolding compared_of
returns c = rw (c.in_ok-one.was, c.in_ok-other.was) (ap given c.agrees.ensures)
