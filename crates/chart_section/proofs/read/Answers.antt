-- A section that is refused has no charts.
use Rattle.chart_section.proofs.ColumnLaws.{answer-refused}
use Rattle.chart_section.proofs.read.Goals as goal

pub returns-in-Err : goal.returns-in-Err
returns-in-Err c = answer-refused _ c.refused.result c.refused.ensures (rw c.in-Err.is at c.read_all.ensures)
