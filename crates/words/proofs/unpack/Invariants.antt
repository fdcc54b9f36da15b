use Rattle.std.proofs.Common.{◌≡◌, take}
use Rattle.words.specs.Words.{words_of}
use Rattle.words.proofs.unpack.Given as goal

abbrev pub invariant-loop-i : goal.invariant-loop-i
invariant-loop-i l = take l.i l.word-items ≡ take l.i (words_of l.bytes)
