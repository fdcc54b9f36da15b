-- `activity::table::floor` meets its contract: each entry is the floor of its exponent.
use mathlib.Core.Path.{sym}
use Rattle.activity.proofs.FloorTable.{floor-entry}
use Rattle.activity.proofs.table.floor.Goals as goal

pub returns : goal.returns
returns c = sym (floor-entry c.args.e.thousandths c.args.e.in_table)
