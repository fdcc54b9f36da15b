-- Each return is what the definition gives by whether there is such a place.
use native.Mathlib.Omega.{arith}
use borrow.Author.Tests.{le-leb, lt-leb}
use Rattle.chart.specs.Steps.{has_partner}
use Rattle.chart.proofs.ValueLaws.{value_at, values-pair}
use Rattle.chart.proofs.signal.Chart.has_partner.Goals as goal

pub returns-in_default : goal.returns-in_default
unfolding has_partner
returns-in_default c = rw (lt-leb c.args.places c.args.i (omega (arith, c.in_default.ensures)))

pub on_one_side-requires : goal.on_one_side-requires
on_one_side-requires c = values-pair _ c.args.self.now.in_range _ _ c.requires (omega (arith, c.in-Some.ensures))

pub beyond-requires : goal.beyond-requires
beyond-requires c = (omega arith, value_at _ c.args.self.now.in_range _ (omega (arith, c.in-Some.ensures)))

pub returns : goal.returns
unfolding has_partner
returns c =
    let there = c.in-Some.ensures in
    rw (le-leb _ _ there.0, ← there.1, c.on_one_side.ensures, c.beyond.ensures)
