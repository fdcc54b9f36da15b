-- Each turn takes the first two of the values that are left, and leaves all but the first.
use mathlib.Core.Path.{refl}
use native.Mathlib.Omega.{arith}
use Rattle.chart.proofs.OrderLaws.{one_more, all_seen}
use Rattle.chart.proofs.signal.in_order.Goals as goal

pub loop-pair-preserved : goal.loop-pair-preserved
loop-pair-preserved c =
    let s = c.in-Some.ensures.steps in
    let inv = c.loop-pair.invariant in
    rw (s.0, s.1.1, s.1.2, inv.0) (refl, one_more _ inv.1 (omega arith), one_more _ inv.2 (omega arith))

pub returns : goal.returns
returns c =
    let s = c.in-None.ensures.steps in
    let inv = c.loop-pair.invariant in
    rw (all_seen _ inv.1 (omega arith), all_seen _ inv.2 (omega arith))
