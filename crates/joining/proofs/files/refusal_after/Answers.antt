-- By how the first batch's own tests ended.
use Rattle.refusal.specs.Outcome.{outcome_of}
use mathlib.Core.Path.{sym, ap, ◌∙◌}
use Rattle.joining.specs.Steps.{number_after}
use Rattle.joining.proofs.files.refusal_after.Goals as goal

pub returns-in-Ok : goal.returns-in-Ok
returns-in-Ok c = sym (ap number_after (sym c.test.ensures ∙ ap outcome_of c.in-Ok.is))

pub returns-in-Err : goal.returns-in-Err
returns-in-Err c = sym (ap number_after (sym c.test.ensures ∙ ap outcome_of c.in-Err.is))
