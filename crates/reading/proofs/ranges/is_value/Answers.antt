-- A NaN is out of range; any other f32 is the float of its own pattern.
use mathlib.Core.Path.{sym, ◌∙◌}
use borrow.Author.Rules.{rules}
use Rattle.reading.proofs.RangeLaws.{of-pattern, nan-outside}
use Rattle.reading.proofs.ranges.is_value.Goals as goal

pub returns-then-not-is_nan : goal.returns-then-not-is_nan
returns-then-not-is_nan c = c.is_value_pattern.ensures ∙ of-pattern 0 c.args.x (search rules)

pub returns-else-not-is_nan : goal.returns-else-not-is_nan
returns-else-not-is_nan c = simp (c.if-not-is_nan.false, nan-outside 0 c.args.x (sym c.if-not-is_nan.ensures.value))
