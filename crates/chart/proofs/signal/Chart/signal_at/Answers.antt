-- Each rule adds its number.
use mathlib.Core.Path.{sym}
use native.Mathlib.Omega.{arith}
use native.Mathlib.Nat.{add_assoc}
use Rattle.chart.specs.Rules.{beyond_three, signal_at}
use Rattle.chart.proofs.ValueLaws.{value_at}
use Rattle.chart.proofs.signal.Chart.signal_at.Goals as goal

pub beyond-requires : goal.beyond-requires
beyond-requires c = (omega arith, value_at _ c.args.self.now.in_range _ c.requires)

pub returns : goal.returns
unfolding signal_at beyond_three
returns c =
    rw (← c.beyond.ensures, ← c.pair_beyond_two.ensures, ← c.weight-one.ensures, ← c.weight-two.ensures, c.of_seven.ensures)
    (sym (add_assoc _ _ _))
