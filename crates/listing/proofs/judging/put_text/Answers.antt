-- The words that are lent from the array are those of the bytes.
use native.Mathlib.Omega.{arith}
use Prim.Native.Nat.{◌/◌, ◌≤◌}
use lib.ListN.{length, replicate}
use Rattle.words.specs.Words.{word_bytes}
use Rattle.words.proofs.Laws.{unpacked}
use Rattle.batch.specs.Input.{most_words}
use Rattle.listing.proofs.judging.put_text.Goals as goal

pub put_judged-requires : goal.put_judged-requires
put_judged-requires c = c.requires.room

pub returns : goal.returns
returns c =
    let bytes = c.args.bytes.now in
    let room : length bytes / word_bytes ≤ most_words = omega (arith, c.requires.few_bytes) in
    let all = unpacked (replicate most_words 0) bytes room c.unpack-count.ensures.answer c.unpack-count.ensures.lent in
    rw all at c.put_judged.ensures
