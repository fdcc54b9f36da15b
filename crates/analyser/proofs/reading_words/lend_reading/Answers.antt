-- The words of the reading that the analysis becomes are lent, or a refusal stands.
use mathlib.Core.Path.{◌≡◌, sym, ap, ◌∙◌}
use native.Mathlib.Omega.{arith}
use Rattle.refusal.specs.Outcome.{outcome_of}
use Rattle.refusal.specs.Outcome.Outcome.{given}
use Rattle.analyser.specs.Analyses.{pair_of, reading_words, analysed_words}
use Rattle.analyser.proofs.CallLaws.{refusing-fitting}
use Rattle.analyser.proofs.reading_words.lend_reading.Goals as goal

pub returns-in_err-reading : goal.returns-in_err-reading
unfolding analysed_words
returns-in_err-reading c =
    let a = c.args in
    let said = refusing-fitting a.lent.now {o = analysed_words a.analysed.value a.analysed.limit} _ _ c.from_residual.ensures.1 (simp (sym c.to_reading.ensures ∙ ap outcome_of c.in_err-reading.was)) in
    record { answer = said.0; after = said.1 }

pub returns-in_err-words : goal.returns-in_err-words
unfolding analysed_words reading_words
returns-in_err-words c =
    let a = c.args in
    let said =
    refusing-fitting a.lent.now {o = analysed_words a.analysed.value a.analysed.limit} _ _ c.from_residual-in_err-words.ensures.1
    (simp (sym c.to_reading.ensures ∙ ap outcome_of c.in_ok-reading.was, sym c.words.ensures.answer ∙ ap outcome_of c.in_err-words.was))
    in
    record { answer = said.0; after = said.1 }

pub returns : goal.returns
unfolding analysed_words reading_words
returns c =
    let a = c.args in
    let e : analysed_words a.analysed.value a.analysed.limit ≡ given (pair_of c.in_ok-words.words) =
    simp (sym c.to_reading.ensures ∙ ap outcome_of c.in_ok-reading.was, sym c.words.ensures.answer ∙ ap outcome_of c.in_ok-words.was) in
    record { answer = grind (arith, e, c.lend.ensures.answer); after = grind (arith, e, c.lend.ensures.lent) }
