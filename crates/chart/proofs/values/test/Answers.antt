-- Each return is what the definition gives by the tests on the way.
use native.Mathlib.Omega.{arith}
use Rattle.std.proofs.lemmas.Grind.{common_steps}
use Rattle.chart.specs.Values.{tested, test_of}
use Rattle.chart.proofs.values.test.Goals as goal

pub returns-then-not-counts_fit : goal.returns-then-not-counts_fit
unfolding test_of tested
returns-then-not-counts_fit c = grind (arith, common_steps)

pub returns-then-not-are_values : goal.returns-then-not-are_values
unfolding test_of tested
returns-then-not-are_values c = grind (arith, common_steps)

pub returns : goal.returns
unfolding test_of tested
returns c = grind (arith, common_steps)
