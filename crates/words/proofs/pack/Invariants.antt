use Rattle.std.proofs.Common.{◌≡◌, take}
use Rattle.words.specs.Words.{bytes_of}
use Rattle.words.proofs.pack.Given as goal

abbrev pub invariant-loop-i : goal.invariant-loop-i
invariant-loop-i l = take l.i l.byte-items ≡ take l.i (bytes_of l.words)
