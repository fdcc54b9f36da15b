use Rattle.batch.proofs.SampleLaws.{Making}
use Rattle.batch.proofs.samples.make_rows.Given as goal

abbrev pub invariant-loop-record : goal.invariant-loop-record
invariant-loop-record l = Making l.words l.charts l.buffer l.size l.samples.left l.samples.rest.now

abbrev pub decreases-loop-record : goal.decreases-loop-record
decreases-loop-record l = l.samples.left
