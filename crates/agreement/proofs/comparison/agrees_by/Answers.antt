-- The library's difference and greater number are the definition's.
use Rattle.agreement.specs.Agreement.{agrees_by}
use Rattle.agreement.proofs.Tenths.{tenth}
use Rattle.agreement.proofs.comparison.agrees_by.Goals as goal

pub returns : goal.returns
unfolding agrees_by
returns c = rw (c.abs_diff.ensures, c.max.ensures) (tenth _ _)
