-- By whether they agree, and then by the sample.
use Rattle.refusal.proofs.Outcomes.{handed-on-by}
use Rattle.judge.specs.Repeats.{compared_in}
use Rattle.judge.proofs.repeats.comparison.Goals as goal

pub returns-in_err-agree : goal.returns-in_err-agree
returns-in_err-agree c = rw c.in_err-agree.was (handed-on-by compared_in _ _ c.from_residual.ensures.1)
