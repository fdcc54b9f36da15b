-- Whether all ions so far are there.
use mathlib.Core.Path.{sym, ap₂, ◌∙◌}
use mathlib.Core.Bool.{Bool, ◌&&◌}
use Rattle.record.proofs.AllBelow.{all_none, all-next}
use Rattle.solution.proofs.ions.are_present.Goals as goal

pub loop-i-init : goal.loop-i-init
loop-i-init c = sym (all_none _)

pub loop-i-preserved : goal.loop-i-preserved
loop-i-preserved c = ap₂ (λ (x y : Bool). x && y) c.loop-i.invariant c.is_present-known.ensures ∙ sym (all-next _ c.loop-i.i)
