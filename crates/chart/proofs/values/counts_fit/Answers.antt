-- The two tests are the definition's.
use native.Mathlib.Omega.{arith}
use Rattle.std.proofs.lemmas.Grind.{common_steps}
use Rattle.chart.specs.Values.{counts_fit}
use Rattle.chart.proofs.values.counts_fit.Goals as goal

pub returns-then-contains : goal.returns-then-contains
unfolding counts_fit
returns-then-contains c = grind (arith, common_steps)

pub returns-else-contains : goal.returns-else-contains
unfolding counts_fit
returns-else-contains c = grind (arith, common_steps)
