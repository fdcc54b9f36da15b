-- The search tells it of the charts, as the definition does of their elements.
use mathlib.Core.Path.{◌∙◌}
use lib.Dec.{eqb}
use Rattle.std.proofs.Common.{rules, tests}
use Rattle.std.proofs.lemmas.Iterator.{YieldsList-from_slice}
use Rattle.std.proofs.lemmas.Iterator.Search.{any_from_yields_List}
use Rattle.chart_section.specs.declared.columns.ChartSignal.{ChartSignal}
use Rattle.chart_section.proofs.ElementLaws.{member-any}
use Rattle.chart_section.proofs.elements.is_member.Goals as goal

pub returns : goal.returns
returns c =
    let used = c.args.used.now in
    let element = c.args.element in
    any_from_yields_List (λ (chart : ChartSignal). eqb chart.element element) _ _ _ c.any.ensures.ran (YieldsList-from_slice used cc) (λ x b q k. search (rules, tests))
    ∙ member-any element used
