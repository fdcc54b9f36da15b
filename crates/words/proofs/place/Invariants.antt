use Rattle.std.proofs.Common.{◌≡◌, take}
use Rattle.words.proofs.place.Given as goal

abbrev pub invariant-loop-i : goal.invariant-loop-i
invariant-loop-i l = take l.i l.word-items ≡ take l.i l.words
