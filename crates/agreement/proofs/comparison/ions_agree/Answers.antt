-- The loop has seen only ions that agree; it is left at the first that does not.
use mathlib.Core.Path.{sym, ◌∙◌}
use Rattle.record.specs.Record.{ions}
use Rattle.record.proofs.AllBelow.{all_none, all_more, all-fails}
use Rattle.agreement.proofs.comparison.ions_agree.Goals as goal

pub loop-i-init : goal.loop-i-init
loop-i-init c = all_none _

pub returns-then-not-readings_agree : goal.returns-then-not-readings_agree
returns-then-not-readings_agree c = sym (all-fails _ c.loop-i.i ions c.loop-i-test.true (sym c.readings_agree.ensures ∙ c.if-not-readings_agree.true))

pub loop-i-preserved : goal.loop-i-preserved
loop-i-preserved c = all_more _ c.loop-i.i c.loop-i.invariant (sym c.readings_agree.ensures ∙ c.if-not-readings_agree.false)
