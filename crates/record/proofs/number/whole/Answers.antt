-- The code multiplies and adds as the definition does.
use Rattle.record.proofs.NumberProofs.{number-laws}
use Rattle.record.proofs.number.whole.Goals as goal

pub returns-clause-laws : goal.returns-clause-laws
returns-clause-laws c = number-laws
