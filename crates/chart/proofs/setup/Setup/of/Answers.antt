-- After i turns the sums and those of the values from place i on make the whole sums, which fit 64 bits by how many values there are
-- and how great they are.
use Prim.Native.Nat.{◌+◌, ◌*◌}
use native.Mathlib.Omega.{arith}
use borrow.Author.Rules.{rules}
use Rattle.chart.proofs.SumLaws.{Summed, none, one_more, whole, sum-most}
use Rattle.chart.proofs.RoomLaws.{squares-fit, limit-fits, of-values}
use Rattle.chart.proofs.setup.Setup.of.Goals as goal

pub loop-value-init : goal.loop-value-init
loop-value-init c = none _

-- the sums of one turn more
more : (c : goal.After-from-v) → Summed c.args.values.now (c.loop-value.value-index + 1) (c.loop-value.sum + c.from-v.result) (c.loop-value.squares + c.from-v.result * c.from-v.result)
more c = one_more c.loop-value.invariant c.loop-value-test.true (search rules)

pub overflow_add-sum : goal.overflow_add-sum
overflow_add-sum c = omega (arith, (more c).sum, sum-most _ c.requires.in_range, c.requires.count.1)

pub overflow_add-squares : goal.overflow_add-squares
overflow_add-squares c = omega (arith, (more c).squares, squares-fit _ c.requires.count.1 c.requires.in_range)

pub loop-value-preserved : goal.loop-value-preserved
loop-value-preserved c = more c

pub overflow_mul-result : goal.overflow_mul-result
overflow_mul-result c = rw (whole c.loop-value.invariant c.loop-value-test.false).1 (omega (arith, limit-fits _ c.requires.count.1 c.requires.in_range))

pub overflow_mul-result-2 : goal.overflow_mul-result-2
overflow_mul-result-2 c = rw (whole c.loop-value.invariant c.loop-value-test.false).0 (omega (arith, limit-fits _ c.requires.count.1 c.requires.in_range))

pub overflow_sub-result : goal.overflow_sub-result
overflow_sub-result c =
    let sums = whole c.loop-value.invariant c.loop-value-test.false in
    rw (sums.0, sums.1) (omega (arith, limit-fits _ c.requires.count.1 c.requires.in_range))

pub overflow_mul-result-3 : goal.overflow_mul-result-3
overflow_mul-result-3 c =
    let sums = whole c.loop-value.invariant c.loop-value-test.false in
    rw (sums.0, sums.1) (omega (arith, limit-fits _ c.requires.count.1 c.requires.in_range))

pub invariant_of-result : goal.invariant_of-result
invariant_of-result c =
    let sums = whole c.loop-value.invariant c.loop-value-test.false in
    rw (sums.0, sums.1) (of-values _ c.requires.count.1 c.requires.in_range c.requires.count.0)

pub returns : goal.returns
returns c =
    let sums = whole c.loop-value.invariant c.loop-value-test.false in
    rw (sums.0, sums.1)
