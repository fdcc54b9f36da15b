-- An f32 in range is the float of its own pattern, whose mass is the definition's.
use mathlib.Core.Path.{ap, ◌∙◌}
use borrow.Author.Rules.{rules}
use lib.Ieee.{binary32}
use lib.Ieee.Bits.{of_bits-to_bits}
use Rattle.reading.specs.Amounts.{value_mass}
use Rattle.reading.proofs.RangeLaws.{of-pattern, not-nan}
use Rattle.reading.proofs.rounding.mass_of_value.Goals as goal

pub float_to_bits-x : goal.float_to_bits-x
float_to_bits-x c = not-nan 0 _ c.requires

pub mass_of_pattern-requires : goal.mass_of_pattern-requires
mass_of_pattern-requires c = of-pattern 0 _ (search rules) ∙ c.requires

pub returns : goal.returns
returns c = c.mass_of_pattern.ensures ∙ ap value_mass (of_bits-to_bits binary32 _ (search rules))
