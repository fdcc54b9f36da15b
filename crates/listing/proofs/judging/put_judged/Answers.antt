-- Each arm writes the text of the answer that the slice holds.
use native.Mathlib.Nat.{le_trans, le_refl}
use lib.ListN.{replicate}
use Rattle.batch.specs.Rows.{most_answer}
use Rattle.listing.specs.Listing.{text_of}
use Rattle.listing.proofs.AnswerLaws.{answered, unanswered}
use Rattle.listing.proofs.LengthLaws.{listed-fits, refused-fits}
use Rattle.listing.proofs.judging.put_judged.Goals as goal

pub put_listing-requires : goal.put_listing-requires
put_listing-requires c =
    let listed = (answered c.args.words.now (replicate most_answer 0) (rw c.in-Ok.is at c.judge_batch.ensures.answer) c.judge_batch.ensures.lent).0 in
    record { rows_there = listed.size; room = le_trans (listed-fits _ listed) c.requires }

pub put_refusal-requires : goal.put_refusal-requires
put_refusal-requires c = le_trans (refused-fits _) c.requires

pub returns-in-Ok : goal.returns-in-Ok
unfolding text_of
returns-in-Ok c =
    rw (answered c.args.words.now (replicate most_answer 0) (rw c.in-Ok.is at c.judge_batch.ensures.answer) c.judge_batch.ensures.lent).1 c.put_listing.ensures

pub returns-in-Err : goal.returns-in-Err
unfolding text_of
returns-in-Err c = rw (unanswered c.args.words.now (replicate most_answer 0) (le_refl _) (rw c.in-Err.is at c.judge_batch.ensures.answer)) c.put_refusal.ensures
