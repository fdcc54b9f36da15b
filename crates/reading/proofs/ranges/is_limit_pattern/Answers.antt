-- A limit is a value from the pattern of 2^-10 on.
use mathlib.Core.Path.{◌∙◌}
use borrow.Author.Tests.{lt-leb, le-leb}
use Rattle.reading.proofs.RangeLaws.{value-pattern, limit-pattern}
use Rattle.reading.proofs.ranges.is_limit_pattern.Goals as goal

pub returns-then-bits-ge-LEAST_LIMIT : goal.returns-then-bits-ge-LEAST_LIMIT
returns-then-bits-ge-LEAST_LIMIT c = c.is_value_pattern.ensures ∙ simp (value-pattern c.args.bits, limit-pattern c.args.bits, le-leb _ _ c.if-bits-ge-LEAST_LIMIT.true)

pub returns-else-bits-ge-LEAST_LIMIT : goal.returns-else-bits-ge-LEAST_LIMIT
returns-else-bits-ge-LEAST_LIMIT c = simp (limit-pattern c.args.bits, lt-leb _ _ c.if-bits-ge-LEAST_LIMIT.false)
