-- Each word is what std reads of its four bytes.
use Rattle.std.proofs.Common.{ℕ, arith, length-take}
use Rattle.words.specs.Words.{words_of}
use Rattle.words.proofs.PackedLaws.{length-words, word-at}
use Rattle.words.proofs.PlacingLaws.{count, put-more, put_all}
use Rattle.words.proofs.unpack.Goals as goal

pub loop-i-preserved : goal.loop-i-preserved
loop-i-preserved c =
    let bytes = c.args.bytes.now in
    let word = word-at bytes c.loop-i.i c.as_chunks.ensures.front (omega (arith, length-take {A = ℕ})) in
    let long = length-words bytes in
    put-more (words_of bytes) _ _ (omega arith) (omega (arith, length-take {A = ℕ})) c.loop-i.invariant (cc)

pub returns-clause-answer : goal.returns-clause-answer
returns-clause-answer c = omega (arith, length-words c.args.bytes.now, count (words_of c.args.bytes.now) c.args.words.now)

pub returns-clause-lent : goal.returns-clause-lent
returns-clause-lent c =
    let long = length-words c.args.bytes.now in
    put_all (words_of c.args.bytes.now) c.args.words.now _ _ _ (omega arith) (omega (arith, length-take {A = ℕ})) (omega (arith, length-take {A = ℕ})) c.loop-i.invariant
