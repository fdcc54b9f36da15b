-- The charts that are left give the whole: those before the index are read, and their columns are held.
use native.Mathlib.Omega.{arith}
use Rattle.std.proofs.lemmas.Result.{err_from_is_err_and}
use Rattle.words.proofs.ManyLaws.{section-short}
use Rattle.chart_section.specs.ChartSection.{most_charts}
use Rattle.chart_section.proofs.ColumnLaws.{chart_after, charts-begun, charts-refused, charts-next, charts-taken, answer-whole}
use Rattle.chart_section.proofs.StandLaws.{charts-within}
use Rattle.chart_section.proofs.charts.read_all.Goals as goal

pub returns-in_default : goal.returns-in_default
returns-in_default c = section-short chart_after most_charts _ (omega (arith, c.in_default.ensures.cases))

pub loop-i-init : goal.loop-i-init
loop-i-init c = charts-begun _ _ _ c.in-Some.ensures.cases.0 (omega arith)

pub returns-in_err-read : goal.returns-in_err-read
returns-in_err-read c =
    let p = err_from_is_err_and c.from_residual.result c.from_residual.ensures.1 in
    rw (p.1, p.2) (charts-refused _ _ _ _ _ c.loop-i.invariant c.loop-i-test.true c.read_one.ensures c.in_err-read.was)

pub loop-i-preserved : goal.loop-i-preserved
loop-i-preserved c = charts-next _ _ _ _ _ c.loop-i.invariant c.loop-i-test.true c.read_one.ensures c.in_ok-read.was

pub overflow_sub-result : goal.overflow_sub-result
overflow_sub-result c = charts-within _ _ _ (charts-taken _ _ _ _ _ c.loop-i.invariant c.loop-i-test.false c.loop-i.auto.i-end)

pub returns : goal.returns
returns c = answer-whole _ _ _ _ _ c.loop-i.invariant c.loop-i-test.false c.loop-i.auto.i-end
