-- The numbers of the verdicts are lent, or the record's refusal stands.
use mathlib.Core.Path.{◌≡◌, sym, ap, ◌∙◌}
use native.Mathlib.Omega.{arith}
use Rattle.refusal.specs.Outcome.Outcome.{given}
use Rattle.judge.specs.Judgements.{judgement_outcome}
use Rattle.analyser.specs.Analyses.{judged_words}
use Rattle.analyser.proofs.CallLaws.{refusing-fitting}
use Rattle.analyser.proofs.verdict_words.lend_verdicts.Goals as goal

pub returns-in_err-four : goal.returns-in_err-four
unfolding judged_words
returns-in_err-four c =
    let said = refusing-fitting c.args.lent.now _ _ c.from_residual.ensures.1 (simp (sym c.judge.ensures.answer ∙ ap judgement_outcome c.in_err-four.was)) in
    record { answer = said.0; after = said.1 }

pub returns : goal.returns
unfolding judged_words
returns c =
    let a = c.args in
    let e : judged_words a.words.now ≡ given c.numbers-answer.result =
    simp (sym c.judge.ensures.answer ∙ ap judgement_outcome c.in_ok-four.was) (ap given (sym c.numbers-answer.ensures)) in
    record { answer = grind (arith, e, c.lend.ensures.answer); after = grind (arith, e, c.lend.ensures.lent) }
