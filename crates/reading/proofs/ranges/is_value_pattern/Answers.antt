-- The pattern of 200 is the last one in range.
use mathlib.Core.Path.{sym}
use Rattle.reading.proofs.RangeLaws.{value-pattern}
use Rattle.reading.proofs.ranges.is_value_pattern.Goals as goal

pub returns : goal.returns
returns c = sym (value-pattern c.args.bits)
