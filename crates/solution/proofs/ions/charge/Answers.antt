-- The product is the definition's, and fits as it is asked to.
use mathlib.Core.Path.{refl}
use Rattle.solution.proofs.ions.charge.Goals as goal

pub returns : goal.returns
returns c = refl
