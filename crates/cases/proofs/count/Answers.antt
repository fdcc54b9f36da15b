-- The number of cases is the length of the table, and the theorem settles them.
use mathlib.Core.Path.{refl}
use Rattle.cases.specs.Cases.{cases}
use Rattle.cases.proofs.Settling.{settled}
use Rattle.cases.proofs.count.Goals as goal

pub returns : goal.returns
unfolding cases
returns c = record { answer = refl; settled = settled }
