use Rattle.joining.proofs.SecondLaws.{Adding}
use Rattle.joining.proofs.second.add_second.Given as goal

abbrev pub invariant-loop : goal.invariant-loop
invariant-loop l = Adding l.first l.second l.rest l.buffer l.counter
