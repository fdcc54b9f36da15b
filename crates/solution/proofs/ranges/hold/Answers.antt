-- The tests are the definition's.
use mathlib.Core.Path.{ap}
use mathlib.Core.Bool.{Bool, ◌&&◌}
use lib.Dec.{leb}
use Rattle.hydrogen.specs.Floors.{most_floor}
use Rattle.record.specs.Record.{most_conductivity, most_alkalinity}
use Rattle.solution.specs.ByValue.{in_ranges}
use Rattle.solution.proofs.ranges.hold.Goals as goal

pub returns : goal.returns
unfolding in_ranges
returns c =
    let a = c.args in
    ap (λ (b : Bool). leb a.floor most_floor && (leb a.own.conductivity most_conductivity && (leb a.own.alkalinity most_alkalinity && b))) c.are_small.ensures
