use Rattle.batch.proofs.TestLaws.{Testing}
use Rattle.batch.proofs.testing.test_samples.Given as goal

abbrev pub invariant-loop-record : goal.invariant-loop-record
invariant-loop-record l = Testing l.words l.samples.left l.samples.rest.now

abbrev pub decreases-loop-record : goal.decreases-loop-record
decreases-loop-record l = l.samples.left
