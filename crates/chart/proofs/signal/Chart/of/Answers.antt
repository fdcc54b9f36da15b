-- The tests' answer says whether the values are valid; where they are, so is the chart made of them.
use native.Mathlib.Omega.{arith}
use Rattle.std.proofs.lemmas.Result.{err_from_is_err_and}
use Rattle.chart.specs.Values.{test_of}
use Rattle.chart.proofs.ValueLaws.{accepted, refused-for-all, valid-passes, counts-within}
use Rattle.chart.proofs.signal.Chart.of.Goals as goal

pub returns-in_err-test-clause-answer : goal.returns-in_err-test-clause-answer
unfolding test_of
returns-in_err-test-clause-answer c =
    let p = err_from_is_err_and c.from_residual.result c.from_residual.ensures.1 in
    rw (p.1, p.2) (refused-for-all _ _ tt c.in_err-test.ensures _)

pub of-requires-clause-count : goal.of-requires-clause-count
unfolding test_of
of-requires-clause-count c =
    let within = counts-within _ _ (accepted _ _ tt c.in_ok-test.ensures).0.counts in
    (omega arith, within.1)

pub of-requires-clause-in_range : goal.of-requires-clause-in_range
unfolding test_of
of-requires-clause-in_range c = (accepted _ _ tt c.in_ok-test.ensures).0.setup

pub invariant_of-result : goal.invariant_of-result
unfolding test_of
invariant_of-result c = record { in_range = (accepted _ _ tt c.in_ok-test.ensures).0.later }

pub returns-clause-answer : goal.returns-clause-answer
unfolding test_of
returns-clause-answer c = rw (c.of.ensures, valid-passes _ _ _ (accepted _ _ tt c.in_ok-test.ensures).0)
