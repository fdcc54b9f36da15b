-- `activity::root::Root::upper` meets its contract: the number after `near` where that is so, else the strength's lower root or the next.
use native.Mathlib.Omega.{arith}
use Rattle.std.proofs.lemmas.Bool.Decides.{nat_tests}
use Rattle.activity.proofs.RootLaws.{upper-root-is, upper-root-same, upper-root-next}
use Rattle.activity.proofs.root.Root.upper.Goals as goal

pub returns-then-not-is_below : goal.returns-then-not-is_below
returns-then-not-is_below c = upper-root-is c.args.strength c.args.near.multiples (grind (arith, nat_tests)) (grind (arith, nat_tests))

pub returns-then-is_below-2 : goal.returns-then-is_below-2
returns-then-is_below-2 c = upper-root-next c.args.strength c.lower-root.result.multiples c.lower-root.ensures (grind (arith, nat_tests))

pub returns : goal.returns
returns c = upper-root-same c.args.strength c.lower-root.result.multiples c.lower-root.ensures (grind (arith, nat_tests))
