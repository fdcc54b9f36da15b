use Rattle.std.proofs.Common.{◌≡◌, take}
use Rattle.refusal.proofs.lent.lend.Given as goal

abbrev pub invariant-loop-i : goal.invariant-loop-i
invariant-loop-i g l = take l.i l.place-items ≡ take l.i l.made
