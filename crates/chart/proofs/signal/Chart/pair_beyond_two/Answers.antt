-- No pair where the value is not beyond 2; else a partner one place before it, or else two.
use native.Mathlib.Omega.{arith}
use Rattle.chart.proofs.ValueLaws.{value_at}
use Rattle.chart.proofs.PairLaws.{pair_is}
use Rattle.chart.proofs.signal.Chart.pair_beyond_two.Goals as goal

pub beyond-requires : goal.beyond-requires
beyond-requires c = (omega arith, value_at _ c.args.self.now.in_range _ c.requires)

pub returns-then-has_partner : goal.returns-then-has_partner
returns-then-has_partner c = rw (pair_is, ← c.beyond.ensures, ← c.has_partner.ensures, c.if-beyond.true, c.if-has_partner.true)

pub returns-else-has_partner : goal.returns-else-has_partner
returns-else-has_partner c =
    rw (pair_is, ← c.beyond.ensures, ← c.has_partner.ensures, c.if-beyond.true, c.if-has_partner.false) c.has_partner-else-has_partner.ensures

pub returns-else-beyond : goal.returns-else-beyond
returns-else-beyond c = rw (pair_is, ← c.beyond.ensures, c.if-beyond.false)
