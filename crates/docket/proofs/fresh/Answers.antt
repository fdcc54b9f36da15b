-- It is open with count 0, and the list theorem is proved of every such docket.
use mathlib.Core.Path.{refl}
use Rattle.docket.proofs.ListProof.{list-theorem}
use Rattle.docket.proofs.fresh.Goals as goal

pub returns : goal.returns
returns c = record { empty = record { state = refl; count = refl }; followed = list-theorem }
