-- The search tells of each chart what the definition does.
use mathlib.Core.Path.{◌∙◌}
use Rattle.std.proofs.Common.{rules, tests}
use Rattle.std.proofs.lemmas.Iterator.{YieldsList-from_slice}
use Rattle.std.proofs.lemmas.Iterator.Search.{any_from_yields_List}
use Rattle.record.specs.Tested.{fields_in, has_reading_in}
use Rattle.batch.proofs.FlagLaws.{flags, flag-any}
use Rattle.batch.proofs.rows.flagged.Goals as goal

pub returns : goal.returns
returns c =
    let charts = c.args.charts.now in
    let has = has_reading_in (fields_in c.args.own) in
    any_from_yields_List (flags has) _ _ _ c.any.ensures.ran (YieldsList-from_slice charts cc) (λ x b q k. search (rules, tests))
    ∙ flag-any has charts
