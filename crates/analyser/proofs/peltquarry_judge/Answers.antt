-- What the call below wrote and answered, and the code of that.
use lib.ListN.{length}
use Rattle.refusal.specs.Lent.{fitting}
use Rattle.analyser.specs.Analyses.{judged_words}
use Rattle.analyser.proofs.CallLaws.{written-code}
use Rattle.analyser.proofs.peltquarry_judge.Goals as goal

pub returns : goal.returns
returns c =
    let a = c.args in
    let o = fitting (length a.verdicts.now) (judged_words a.words.now) in
    record { code = written-code o c.of_written.ensures c.lend_verdicts.ensures.answer; lent = c.lend_verdicts.ensures.after }
