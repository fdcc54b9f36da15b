use mathlib.Core.Path.{◌≡◌}
use lib.ListN.{take}
use Rattle.chart.specs.Values.{every, is_value}
use Rattle.chart.proofs.values.are_values.Given as goal

abbrev pub invariant-loop-word : goal.invariant-loop-word
invariant-loop-word l = l.all ≡ every is_value (take l.word-index l.words)
