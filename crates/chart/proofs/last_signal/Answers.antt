-- The chart is there where the values are valid: the last word is the signal at the last place.
use mathlib.Core.Path.{sym, ap, ◌∙◌}
use native.Mathlib.Omega.{arith}
use Rattle.std.proofs.lemmas.Result.{err_from_is_err_and}
use Rattle.refusal.specs.Outcome.Outcome.{given}
use Rattle.chart.proofs.ValueLaws.{accepted}
use Rattle.chart.proofs.ValidLaws.{last-refused, last-given}
use Rattle.chart.proofs.WordLaws.{no_last, last-is}
use Rattle.chart.proofs.last_signal.Goals as goal

pub returns-in_err-chart : goal.returns-in_err-chart
returns-in_err-chart c =
    let p = err_from_is_err_and c.from_residual.result c.from_residual.ensures.1 in
    rw (p.1, p.2) (last-refused _ _ _ c.in_err-chart.ensures.answer)

pub returns-in_default : goal.returns-in_default
returns-in_default c =
    let valid = (accepted _ _ _ c.in_ok-chart.ensures.answer).0 in
    ap given (no_last _ _ (omega (arith, c.in_default.ensures))) ∙ sym (last-given valid)

pub returns : goal.returns
returns c =
    let chart = accepted _ _ _ c.in_ok-chart.ensures.answer in
    let last = c.in-Some.ensures in
    rw (c.signal_at.ensures, chart.1, c.in_ok-chart.ensures.same, last.1) (ap given (last-is _ _ last.0) ∙ sym (last-given chart.0))
