-- No sums at either end.
use mathlib.Core.Path.{refl}
use Rattle.solution.proofs.SameLaws.{same-ranges}
use Rattle.solution.proofs.both_ends.none.Goals as goal

pub returns : goal.returns
returns c = same-ranges refl refl c.no_sums.ensures c.no_sums-2.ensures
