-- What the call below wrote and answered, and the code and the length of that.
use lib.ListN.{length}
use Rattle.refusal.specs.Outcome.Outcome.{given}
use Rattle.refusal.specs.Lent.{fitting}
use Rattle.listing.specs.Listing.{list_text}
use Rattle.analyser.proofs.CallLaws.{written-code, written-size}
use Rattle.analyser.proofs.peltquarry_list.Goals as goal

pub returns : goal.returns
returns c =
    let a = c.args in
    let o = fitting (length a.text.now) (given (list_text a.bytes.now)) in
    let told = c.list.ensures.answer in
    record { code = written-code o c.with_size.ensures.code told; lent = c.list.ensures.lent; size = written-size o a.size.now c.with_size.ensures.size told }
