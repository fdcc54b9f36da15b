-- By whether the docket is open and took something, and how the record's judgement and its comparison with the one held end.
use borrow.Author.Rules.{rules}
use mathlib.Core.Path.{sym, ap, ◌∙◌}
use native.Mathlib.Omega.{arith}
use borrow.Author.Tests.{ne_eqb}
use Rattle.judge.specs.Judgements.{numbers_of, judgement_outcome}
use Rattle.judge.specs.Repeats.{comparison_outcome}
use Rattle.docket.specs.Terms.{docket_of}
use Rattle.judge.proofs.Laws.{judged-length}
use Rattle.judge.proofs.RepeatLaws.{judged-refuses}
use Rattle.docket.proofs.OfferLaws.{Repeated, own-refused, closed-refused, first_taken, full-refused, no-record-refused, other-refused, agreeing-taken, differing-taken}
use Rattle.docket.proofs.Docket.after.Goals as goal
use Rattle.docket.proofs.Docket.after.Goals.{In_ok-verdicts-2}

pub returns-in_err-test : goal.returns-in_err-test
returns-in_err-test c = own-refused _ _ _ _ c.from_residual.ensures.1 (sym c.in_err-test.ensures)

pub returns-then-not-is_open : goal.returns-then-not-is_open
returns-then-not-is_open c = closed-refused _ _ (sym c.in_ok-test.ensures) (sym c.if-not-is_open.ensures)

pub returns-in_err-verdicts : goal.returns-in_err-verdicts
returns-in_err-verdicts c = own-refused _ _ _ _ c.from_residual-in_err-verdicts.ensures.1 (judged-refuses _ (sym c.in_err-verdicts.ensures.answer))

pub take-requires : goal.take-requires
take-requires c = (judged-length _ _ (sym c.in_ok-verdicts.ensures.answer), omega arith)

pub returns-then-self-eq0 : goal.returns-then-self-eq0
returns-then-self-eq0 c = first_taken _ _ (sym c.if-not-is_open.ensures) (sym c.in_ok-verdicts.ensures.answer) c.if-self-eq0.true c.take.ensures

pub returns-in_err-verdicts-2 : goal.returns-in_err-verdicts-2
returns-in_err-verdicts-2 c =
    own-refused _ _ _ _ c.from_residual-in_err-verdicts-2.ensures.1
    (judged-refuses _ (sym c.judge_repeat-repeat.ensures.judged ∙ ap judgement_outcome c.in_err-verdicts-2.was))

-- of a repeat that its own tests accept
repeated : (c : In_ok-verdicts-2) → Repeated (docket_of c.args.self) c.args.words.now (numbers_of c.in_ok-verdicts-2.verdicts) (comparison_outcome c.judge_repeat-repeat.result.comparison)
repeated c =
    record {
      opened = sym c.if-not-is_open.ensures;
      some = ne_eqb _ _ c.if-self-eq0.false;
      judged = sym c.judge_repeat-repeat.ensures.judged ∙ ap judgement_outcome c.in_ok-verdicts-2.was;
      compared = c.judge_repeat-repeat.ensures.compared;
    }

pub returns-then-self-ge-MOST : goal.returns-then-self-ge-MOST
returns-then-self-ge-MOST c = full-refused (repeated (goal.at.returns-then-self-ge-MOST c).In_ok-verdicts-2) c.if-self-ge-MOST.true

pub take-requires-in-Ok-Agree : goal.take-requires-in-Ok-Agree
take-requires-in-Ok-Agree c = (judged-length _ _ (repeated (goal.at.take-requires-in-Ok-Agree c).In_ok-verdicts-2).judged, omega arith)

pub take-requires-in-Ok-Differ : goal.take-requires-in-Ok-Differ
take-requires-in-Ok-Differ c = (judged-length _ _ (repeated (goal.at.take-requires-in-Ok-Differ c).In_ok-verdicts-2).judged, omega arith)

pub returns-in-Ok-Agree : goal.returns-in-Ok-Agree
returns-in-Ok-Agree c = agreeing-taken (repeated (goal.at.returns-in-Ok-Agree c).In_ok-verdicts-2) c.if-self-ge-MOST.false (search rules) c.take-in-Ok-Agree.ensures

pub returns-in-Ok-Differ : goal.returns-in-Ok-Differ
returns-in-Ok-Differ c = differing-taken (repeated (goal.at.returns-in-Ok-Differ c).In_ok-verdicts-2) c.if-self-ge-MOST.false (search rules) c.take-in-Ok-Differ.ensures

pub returns-in-Ok-OtherSample : goal.returns-in-Ok-OtherSample
returns-in-Ok-OtherSample c = other-refused (repeated (goal.at.returns-in-Ok-OtherSample c).In_ok-verdicts-2) c.if-self-ge-MOST.false (search rules)

pub returns-in-Err : goal.returns-in-Err
returns-in-Err c = no-record-refused (repeated (goal.at.returns-in-Err c).In_ok-verdicts-2) c.if-self-ge-MOST.false (ap comparison_outcome c.in-Err.is)
