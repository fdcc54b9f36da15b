-- What the call below wrote and answered, and the code and the length of that.
use lib.ListN.{length}
use Rattle.refusal.specs.Lent.{fitting}
use Rattle.joining.specs.Joins.{joined_of}
use Rattle.analyser.proofs.CallLaws.{written-code, written-size}
use Rattle.analyser.proofs.peltquarry_join.Goals as goal

pub returns : goal.returns
returns c =
    let a = c.args in
    let o = fitting (length a.joined.now) (joined_of a.first.now a.second.now) in
    let told = c.join.ensures.answer in
    record { code = written-code o c.with_size.ensures.code told; lent = c.join.ensures.lent; size = written-size o a.size.now c.with_size.ensures.size told }
