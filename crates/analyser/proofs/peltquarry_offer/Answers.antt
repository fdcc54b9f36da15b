-- What the call below wrote and answered, and the code of that.
use Rattle.analyser.specs.LentDockets.{offered_words}
use Rattle.analyser.proofs.CallLaws.{written-code}
use Rattle.analyser.proofs.OfferLaws.{lent-laws}
use Rattle.analyser.proofs.peltquarry_offer.Goals as goal

pub returns : goal.returns
returns c =
    let o = offered_words c.args.docket.now c.args.words.now in
    record { code = written-code o c.of_written.ensures c.offer.ensures.answer; lent = c.offer.ensures.after; laws = lent-laws }
