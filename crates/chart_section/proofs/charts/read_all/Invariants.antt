use Rattle.chart_section.proofs.ColumnLaws.{Begun}
use Rattle.chart_section.proofs.charts.read_all.Given as goal

abbrev pub invariant-loop-i : goal.invariant-loop-i
invariant-loop-i l = Begun l.words l.count l.i l.rest l.charts
