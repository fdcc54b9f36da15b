-- What the call below wrote and answered, and the code of that.
use lib.ListN.{length}
use Rattle.refusal.specs.Lent.{fitting}
use Rattle.analyser.specs.Analyses.{analysed_words}
use Rattle.analyser.proofs.CallLaws.{written-code}
use Rattle.analyser.proofs.peltquarry_reading.Goals as goal

pub returns : goal.returns
returns c =
    let a = c.args in
    let o = fitting (length a.words.now) (analysed_words a.value a.limit) in
    record { code = written-code o c.of_written.ensures c.lend_reading.ensures.answer; lent = c.lend_reading.ensures.after }
