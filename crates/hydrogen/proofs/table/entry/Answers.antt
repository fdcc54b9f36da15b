-- `hydrogen::table::entry` meets its contract: each entry is the floor of its place.
use mathlib.Core.Path.{sym}
use Rattle.hydrogen.proofs.FloorTable.{floor-entry}
use Rattle.hydrogen.proofs.table.entry.Goals as goal

pub returns : goal.returns
returns c = sym (floor-entry c.args.place c.requires)
