-- By the two tests.
use mathlib.Core.Path.{ap₂, ◌∙◌}
use Rattle.agreement.specs.Compared.{compared_of}
use Rattle.agreement.proofs.Laws.{compared_is}
use Rattle.agreement.proofs.agree.Goals as goal

pub returns : goal.returns
returns c = c.compare.ensures ∙ ap₂ compared_of c.test-one.ensures c.test-other.ensures ∙ compared_is _ _
