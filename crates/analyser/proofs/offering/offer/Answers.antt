-- The record's own refusal goes before that of the lent words; else the record is offered to the docket that they hold.
use mathlib.Core.Path.{◌≡◌, refl, sym, ap, ◌∙◌}
use native.Mathlib.Omega.{arith}
use lib.ListN.{length}
use Rattle.std.specs.Prelude.{Ok}
use Rattle.refusal.specs.Outcome.{outcome_of, outcome_by}
use Rattle.refusal.specs.Outcome.Outcome.{given, refused}
use Rattle.refusal.specs.Numbers.{number_of}
use Rattle.docket.specs.Terms.{docket_of}
use Rattle.docket.specs.Offers.{offer_of}
use Rattle.docket.specs.After.{offered_by}
use Rattle.analyser.specs.DocketWords.{docket_from}
use Rattle.analyser.specs.LentDockets.{words_after, offered_words}
use Rattle.analyser.proofs.CallLaws.{same_answer, refusing, fits_whole}
use Rattle.analyser.proofs.WordLaws.{held-long}
use Rattle.analyser.proofs.OfferLaws.{offered}
use Rattle.analyser.proofs.offering.offer.Goals as goal

pub returns-in_err-test-in-Err : goal.returns-in_err-test-in-Err
unfolding offered_words
returns-in_err-test-in-Err c =
    let a = c.args in
    let said = refusing a.lent.now {o = offered_words a.lent.now a.words.now} _ _ c.from_residual.ensures.1 (simp (sym c.test.ensures ∙ ap outcome_of c.in_err-test-in-Err.was)) in
    record { answer = said.0; after = said.1 }

pub returns-in-Err : goal.returns-in-Err
unfolding offered_words
returns-in-Err c =
    let a = c.args in
    let e : offered_words a.lent.now a.words.now ≡ refused (number_of c.in-Err.why) =
    simp (sym c.test.ensures ∙ ap outcome_of c.in_ok-test-in-Err.was, sym c.docket_in.ensures ∙ ap (outcome_by docket_of) c.in-Err.is) in
    let said = same_answer a.lent.now e (refl, refl) in
    record { answer = said.0; after = said.1 }

pub returns-in_err-after : goal.returns-in_err-after
unfolding words_after
returns-in_err-after c =
    let a = c.args in
    let before = docket_of c.in-Ok.before in
    let held : docket_from a.lent.now ≡ given before = sym c.docket_in.ensures ∙ ap (outcome_by docket_of) c.in-Ok.is in
    let e = sym c.after.ensures ∙ ap (offered_by before) c.in_err-after.was in
    let said = refusing a.lent.now _ _ c.from_residual-in_err-after.ensures.1 (offered a.lent.now before held a.words.now ∙ ap words_after e) in
    record { answer = said.0; after = said.1 }

pub returns : goal.returns
unfolding words_after
returns c =
    let a = c.args in
    let before = docket_of c.in-Ok.before in
    let held : docket_from a.lent.now ≡ given before = sym c.docket_in.ensures ∙ ap (outcome_by docket_of) c.in-Ok.is in
    let taken : offer_of before a.words.now ≡ offered_by before (Ok c.in_ok-after.after) = sym c.after.ensures ∙ ap (offered_by before) c.in_ok-after.was in
    let e : offered_words a.lent.now a.words.now ≡ given c.words_of-answer.result =
    offered a.lent.now before held a.words.now ∙ ap words_after taken ∙ ap given (sym c.words_of-answer.ensures.words) in
    let room = fits_whole c.words_of-answer.result a.lent.now
    (omega (arith, ap length c.words_of-answer.ensures.words, c.words_of-answer.ensures.whole, held-long a.lent.now before held)) in
    let said = same_answer a.lent.now (e ∙ sym room) (c.lend.ensures.answer, c.lend.ensures.lent) in
    record { answer = said.0; after = said.1 }
