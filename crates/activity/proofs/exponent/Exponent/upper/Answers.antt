-- `activity::exponent::Exponent::upper` meets its contract: the division rounds up.
use native.Mathlib.Omega.{arith}
use Rattle.activity.proofs.ExponentLaws.{upper-exponent-is, upper-exponent-small}
use Rattle.activity.proofs.exponent.Exponent.upper.Goals as goal

pub invariant_of-result : goal.invariant_of-result
invariant_of-result c =
    let is = upper-exponent-is c.args.root.multiples c.top.result c.top.ensures.answer in
    let small = upper-exponent-small c.args.root.multiples c.args.root.small in
    record { in_table = grind (arith, is, small) }

pub returns : goal.returns
returns c = let is = upper-exponent-is c.args.root.multiples c.top.result c.top.ensures.answer in grind (arith, is)
