-- The joined words are made in the buffer, and lent as bytes.
use Rattle.refusal.specs.Outcome.{outcome_of}
use mathlib.Core.Path.{refl, ap}
use lib.ListN.{replicate}
use Rattle.batch.specs.Input.{most_words}
use Rattle.std.proofs.lemmas.Result.{err_from_is_err_and}
use Rattle.joining.proofs.FileLaws.{made_bytes, none_made}
use Rattle.joining.proofs.files.join_words.Goals as goal

pub returns : goal.returns
returns c =
    let said = made_bytes _ _ (replicate most_words 0) refl c.join.ensures.answer (ap outcome_of c.in_ok-size.was) c.join.ensures.lent
    c.args.out.now _ _ (c.lend.ensures.answer, c.lend.ensures.lent) in
    record { answer = said.0; lent = said.1 }

pub returns-in_err-size : goal.returns-in_err-size
returns-in_err-size c =
    let p = err_from_is_err_and c.from_residual.result c.from_residual.ensures.1 in
    let said = none_made _ _ (replicate most_words 0) refl c.join.ensures.answer c.args.out.now (ap outcome_of c.in_err-size.was) in
    record { answer = rw (p.1, p.2) said.0; lent = said.1 }
