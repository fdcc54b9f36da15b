-- Whether all words so far are values decides.
use mathlib.Core.Path.{refl}
use Rattle.chart.specs.Values.{every}
use Rattle.chart.proofs.EveryLaws.{every_more}
use Rattle.chart.proofs.values.are_values.Goals as goal

pub loop-word-init : goal.loop-word-init
unfolding every
loop-word-init c = refl

pub loop-word-preserved : goal.loop-word-preserved
loop-word-preserved c = rw (every_more _ _ _ c.loop-word-test.true, c.loop-word.invariant)
