use Rattle.joining.proofs.WalkLaws.{Seeking}
use Rattle.joining.proofs.finding.find.Given as goal

abbrev pub invariant-loop : goal.invariant-loop
invariant-loop l = Seeking l.words l.rest l.key l.counter
