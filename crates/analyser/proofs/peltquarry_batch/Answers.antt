-- What the call below wrote and answered, and the code of that.
use lib.ListN.{length}
use Rattle.refusal.specs.Lent.{fitting}
use Rattle.batch.specs.Rows.{batch_answer}
use Rattle.analyser.proofs.CallLaws.{written-code}
use Rattle.analyser.proofs.peltquarry_batch.Goals as goal

pub returns : goal.returns
returns c =
    let a = c.args in
    let o = fitting (length a.answer.now) (batch_answer a.words.now) in
    record { code = written-code o c.of_written.ensures c.judge_batch.ensures.answer; lent = c.judge_batch.ensures.lent }
