-- What is behind the three parts is behind the chart.
use Rattle.joining.proofs.PutLaws.{split_rest}
use Rattle.joining.proofs.chart_at.Chart.split.Goals as goal

pub returns-clause-rest : goal.returns-clause-rest
returns-clause-rest c = split_rest _ c.split_at.ensures.front c.split_at.ensures.back c.split_at-2.ensures.back c.split_at-3.ensures.back
