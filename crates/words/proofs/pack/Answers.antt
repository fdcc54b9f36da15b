-- Each byte is one of those that std makes of its word.
use Rattle.std.proofs.Common.{ℕ, arith, length-take}
use Rattle.words.specs.Words.{bytes_of}
use Rattle.words.proofs.PackedLaws.{length-bytes, byte-at, words_back}
use Rattle.words.proofs.PlacingLaws.{count, put-more, put_all}
use Rattle.words.proofs.pack.Goals as goal

pub loop-i-preserved : goal.loop-i-preserved
loop-i-preserved c =
    let words = c.args.words.now in
    let i = c.loop-i.i in
    let long = length-bytes words in
    let byte = byte-at words i c.to_le_bytes.ensures (omega (arith, length-take {A = ℕ})) in
    put-more (bytes_of words) _ _ (omega arith) (omega (arith, length-take {A = ℕ})) c.loop-i.invariant (grind (arith, byte))

pub returns : goal.returns
returns c =
    let words = c.args.words.now in
    let bytes = c.args.bytes.now in
    let long = length-bytes words in
    record {
      answer = omega (arith, count (bytes_of words) bytes);
      lent = put_all (bytes_of words) bytes _ _ _ (omega arith) (omega (arith, length-take {A = ℕ})) (omega (arith, length-take {A = ℕ})) c.loop-i.invariant;
      back = words_back;
    }
