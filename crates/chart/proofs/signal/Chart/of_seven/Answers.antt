-- The lent part is the seven; where there is none, both rules add nothing.
use native.Mathlib.Omega.{arith}
use Rattle.chart.proofs.EveryLaws.{every_part}
use Rattle.chart.specs.Values.{is_value}
use Rattle.chart.proofs.SevenLaws.{too-early, of_part}
use Rattle.chart.proofs.signal.Chart.of_seven.Goals as goal

pub returns-in_default : goal.returns-in_default
returns-in_default c =
    let none = too-early c.args.self.now.setup c.args.self.now.later.now c.args.i (omega (arith, c.in_default.ensures)) in
    rw (none.0, none.1)

pub on_one_side-requires : goal.on_one_side-requires
on_one_side-requires c = every_part is_value _ _ _ c.args.self.now.in_range

pub returns : goal.returns
returns c =
    let there = c.in-Some.ensures in
    let seven = of_part c.args.self.now.setup c.args.self.now.later.now c.args.i there.0 in
    rw (seven.0, seven.1, ← there.1, ← c.on_one_side.ensures, ← c.in_order.ensures, ← c.weight.ensures, ← c.weight-2.ensures)
