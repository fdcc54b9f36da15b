-- The counts fit and the values are whole, so the chart's own tests are those of the values alone.
use native.Mathlib.Omega.{arith}
use lib.ListN.{length-drop}
use Rattle.chart_section.specs.ChartSection.{head_words}
use Rattle.std.proofs.lemmas.Result.{err_from_is_err_and}
use Rattle.chart.proofs.ValueLaws.{counts-within}
use Rattle.chart_section.proofs.ChartLaws.{values-short, values-taken, values-refused}
use Rattle.chart_section.proofs.first.read_values.Goals as goal

pub overflow_add-middle : goal.overflow_add-middle
overflow_add-middle c = let h = counts-within _ _ c.requires.1 in record { fits = omega (arith, h.1) }

pub overflow_add-end : goal.overflow_add-end
overflow_add-end c = let h = counts-within _ _ c.requires.1 in record { fits = omega (arith, h.1, h.2) }

pub returns-then-words-end : goal.returns-then-words-end
returns-then-words-end c = values-short _ _ _ _ (omega (arith, length-drop head_words c.args.words.now, c.if-words-end.true))

pub returns-in_err-signal : goal.returns-in_err-signal
returns-in_err-signal c =
    let p = err_from_is_err_and c.from_residual.result c.from_residual.ensures.1 in
    rw (p.1, p.2) (values-refused _ _ _ c.args.words.now c.requires.1 c.if-words-end.false c.last_signal.ensures c.in_err-signal.was)

pub returns : goal.returns
returns c = values-taken _ _ _ c.args.words.now c.requires.1 c.if-words-end.false c.last_signal.ensures c.in_ok-signal.was
