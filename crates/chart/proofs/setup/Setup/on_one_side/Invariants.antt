use mathlib.Core.Path.{◌≡◌}
use lib.ListN.{take}
use Rattle.chart.specs.Values.{every}
use Rattle.chart.specs.Setups.{on_side}
use Rattle.chart.specs.Setups.Side.{Above, Below}
use Rattle.chart.proofs.setup.Setup.on_one_side.Given as goal

abbrev pub invariant-loop-value : goal.invariant-loop-value
invariant-loop-value l =
    (l.above ≡ every (on_side l.self Above) (take l.value-index l.values))
    × (l.below ≡ every (on_side l.self Below) (take l.value-index l.values))
