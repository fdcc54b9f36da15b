-- One value more on its side, or not.
use mathlib.Core.Path.{refl}
use Rattle.chart.specs.Values.{every}
use Rattle.chart.specs.Setups.{on_side}
use Rattle.chart.specs.Setups.Side.{Above, Below}
use Rattle.chart.proofs.EveryLaws.{every_more}
use Rattle.chart.proofs.setup.Setup.on_one_side.Goals as goal

pub loop-value-init : goal.loop-value-init
unfolding every
loop-value-init c = (refl, refl)

pub loop-value-preserved : goal.loop-value-preserved
loop-value-preserved c =
    let above = every_more (on_side c.args.self.now Above) _ _ c.loop-value-test.true in
    let below = every_more (on_side c.args.self.now Below) _ _ c.loop-value-test.true in
    rw (above, below, ← c.loop-value.invariant.0, ← c.loop-value.invariant.1, ← c.self.view_is, c.from.ensures) (refl, refl)
