use mathlib.Core.Path.{◌≡◌}
use Rattle.std.specs.Slice.Iter.{windows_size, windows_rest}
use Rattle.chart.specs.Rules.Course.{Rising, Falling}
use Rattle.chart.proofs.OrderLaws.{Seen}
use Rattle.chart.proofs.signal.in_order.Given as goal

abbrev pub invariant-loop-pair : goal.invariant-loop-pair
invariant-loop-pair l =
    (windows_size l.pair-iterator ≡ 2)
    × Seen Rising l.seven (windows_rest l.pair-iterator) l.rising
    × Seen Falling l.seven (windows_rest l.pair-iterator) l.falling
