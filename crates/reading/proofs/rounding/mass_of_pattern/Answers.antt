-- Below the exponent's field 100 nothing is left; from there on one shift and one halving round the exact value.
use mathlib.Core.Path.{sym}
use native.Mathlib.Omega.{arith}
use lib.Dec.{lit≤}
use Rattle.reading.specs.Amounts.{value_mass, per_milligram}
use Rattle.reading.proofs.RangeLaws.{value-most}
use Rattle.reading.proofs.NearestLaws.{low-exponent, high-exponent}
use Rattle.reading.proofs.rounding.mass_of_pattern.Goals as goal

pub returns-then-exponent-lt100 : goal.returns-then-exponent-lt100
unfolding value_mass
returns-then-exponent-lt100 c = sym (low-exponent per_milligram c.args.bits (value-most c.args.bits c.requires) (lit≤ tt) c.if-exponent-lt100.true)

pub overflow_sub-twice : goal.overflow_sub-twice
overflow_sub-twice c = omega (arith, value-most c.args.bits c.requires)

pub returns : goal.returns
unfolding value_mass
returns c = rw c.from.ensures (sym (high-exponent per_milligram c.args.bits (value-most c.args.bits c.requires) c.if-exponent-lt100.false))
