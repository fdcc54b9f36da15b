use Rattle.joining.proofs.FirstLaws.{Joining}
use Rattle.joining.proofs.first.join_first.Given as goal

abbrev pub invariant-loop : goal.invariant-loop
invariant-loop l = Joining l.first l.second l.rest l.buffer l.counter
