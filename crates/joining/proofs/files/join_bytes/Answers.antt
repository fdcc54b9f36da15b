-- The first file's bytes are no batch's; or the words lent from the array are theirs.
use mathlib.Core.Path.{sym, ◌∙◌}
use native.Mathlib.Omega.{arith}
use Prim.Native.Nat.{◌/◌, ◌≤◌}
use lib.ListN.{length, replicate}
use Rattle.words.specs.Words.{word_bytes}
use Rattle.words.proofs.Laws.{unpacked}
use Rattle.batch.specs.Input.{most_words}
use Rattle.batch.proofs.InputLaws.{input-within}
use Rattle.joining.proofs.FileLaws.{first-no-input, first_read}
use Rattle.joining.proofs.FileProofs.{joins-files}
use Rattle.joining.proofs.files.join_bytes.Goals as goal

pub returns-then-not-is_input : goal.returns-then-not-is_input
returns-then-not-is_input c =
    let a = c.args in
    let d = first-no-input _ a.second.now a.out.now (sym c.is_input.ensures ∙ c.if-not-is_input.true) in
    record { answer = d.0; lent = d.1; joined = joins-files }

pub returns : goal.returns
returns c =
    let bytes = c.args.first.now in
    let is = sym c.is_input.ensures ∙ c.if-not-is_input.false in
    let room : length bytes / word_bytes ≤ most_words = omega (arith, input-within bytes is) in
    let all = unpacked (replicate most_words 0) bytes room c.unpack-count.ensures.answer c.unpack-count.ensures.lent in
    let d = first_read bytes _ c.args.out.now is all _ _ (c.join_second.ensures.answer, c.join_second.ensures.lent) in
    record { answer = d.0; lent = d.1; joined = joins-files }
