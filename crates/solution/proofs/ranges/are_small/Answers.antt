-- Whether all greatest amounts so far are small.
use mathlib.Core.Path.{◌≡◌, sym, ap, ap₂, ◌∙◌}
use mathlib.Core.Bool.{Bool, ◌&&◌}
use native.Mathlib.Omega.{arith}
use lib.Dec.{leb}
use Rattle.reading.specs.Amounts.{most_mass}
use Rattle.reading.specs.Analytes.{AmountRange}
use Rattle.record.specs.Record.{readings, all_below}
use Rattle.record.proofs.AllBelow.{all_none, all-next}
use Rattle.solution.specs.ByValue.{are_small}
use Rattle.solution.proofs.ranges.are_small.Invariants.{small_at}
use Rattle.solution.proofs.ranges.are_small.Goals as goal

pub loop-analyte-init : goal.loop-analyte-init
loop-analyte-init c = sym (all_none _)

pub loop-analyte-preserved : goal.loop-analyte-preserved
loop-analyte-preserved c =
    let at = c.loop-analyte in
    let most = ap (λ (r : AmountRange). leb r.most most_mass) c.range.ensures.answer in
    ap₂ (λ (a b : Bool). a && b) at.invariant most ∙ sym (all-next (small_at c.args.analytes.now) at.analyte-index)

pub returns : goal.returns
unfolding are_small
returns c = let e : c.loop-analyte.analyte-index ≡ readings = omega arith in c.loop-analyte.invariant ∙ ap (all_below (small_at c.args.analytes.now)) e
