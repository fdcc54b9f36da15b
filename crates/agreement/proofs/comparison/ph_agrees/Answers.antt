-- The library's difference is the definition's.
use Rattle.agreement.specs.Agreement.{ph_agrees}
use Rattle.agreement.proofs.comparison.ph_agrees.Goals as goal

pub returns : goal.returns
unfolding ph_agrees
returns c = rw c.abs_diff.ensures
