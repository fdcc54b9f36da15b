use mathlib.Core.Path.{◌≡◌}
use lib.ListN.{take}
use Rattle.chart.specs.Charts.{first_words}
use Rattle.chart.proofs.signals.Given as goal

abbrev pub invariant-loop-i : goal.invariant-loop-i
invariant-loop-i l = take l.i l.word-items ≡ first_words l.chart.setup l.later l.i
