-- `activity::exponent::Exponent::lower` meets its contract: the division rounds down.
use Rattle.activity.proofs.ExponentLaws.{lower-exponent-is, lower-exponent-small}
use Rattle.activity.proofs.exponent.Exponent.lower.Goals as goal

pub invariant_of-result : goal.invariant_of-result
invariant_of-result c =
    rw (lower-exponent-is c.args.root.multiples c.top.result c.top.ensures.answer) (record { in_table = lower-exponent-small c.args.root.multiples c.args.root.small })

pub returns : goal.returns
returns c = lower-exponent-is c.args.root.multiples c.top.result c.top.ensures.answer
