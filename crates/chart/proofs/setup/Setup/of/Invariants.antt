use Rattle.chart.proofs.SumLaws.{Summed}
use Rattle.chart.proofs.setup.Setup.of.Given as goal

abbrev pub invariant-loop-value : goal.invariant-loop-value
invariant-loop-value l = Summed l.values l.value-index l.sum l.squares
