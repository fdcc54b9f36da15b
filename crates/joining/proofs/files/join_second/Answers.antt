-- The second file's bytes are no batch's; or the words lent from the array are theirs.
use mathlib.Core.Path.{sym, ◌∙◌}
use native.Mathlib.Omega.{arith}
use Prim.Native.Nat.{◌/◌, ◌≤◌}
use lib.ListN.{length, replicate}
use Rattle.words.specs.Words.{word_bytes}
use Rattle.words.proofs.Laws.{unpacked}
use Rattle.batch.specs.Input.{most_words}
use Rattle.batch.proofs.InputLaws.{input-within}
use Rattle.joining.proofs.FileLaws.{second-no-input, second-read}
use Rattle.joining.proofs.files.join_second.Goals as goal

pub returns-then-not-is_input : goal.returns-then-not-is_input
returns-then-not-is_input c =
    let said = second-no-input _ _ c.args.out.now (sym c.is_input.ensures ∙ c.if-not-is_input.true) c.refusal_after.ensures in
    record { answer = said.0; lent = said.1 }

pub returns : goal.returns
returns c =
    let bytes = c.args.second.now in
    let is = sym c.is_input.ensures ∙ c.if-not-is_input.false in
    let room : length bytes / word_bytes ≤ most_words = omega (arith, input-within bytes is) in
    let all = unpacked (replicate most_words 0) bytes room c.unpack-count.ensures.answer c.unpack-count.ensures.lent in
    let said = second-read _ bytes c.args.out.now is all _ _ (c.join_words.ensures.answer, c.join_words.ensures.lent) in
    record { answer = said.0; lent = said.1 }
