-- Each pair is asked by the closure, and all ten are asked.
use mathlib.Core.Path.{◌∙◌}
use borrow.Author.Rules.{rules}
use borrow.Author.Tests.{tests}
use Rattle.std.proofs.lemmas.Iterator.{YieldsList-from_slice}
use Rattle.std.proofs.lemmas.Iterator.Search.{all_from_yields_List}
use Rattle.refusal.proofs.Outcomes.{ok-given}
use Rattle.record.proofs.PairLaws.{is-pair, all-pairs}
use Rattle.record.proofs.readings.are_readings.Goals as goal

pub returns : goal.returns
returns c =
    let s = c.args.words.now in
    all_from_yields_List (is-pair s) _ _ c.all.result c.all.ensures.ran (YieldsList-from_slice c.pairs.result.now cc) (λ x b q k. search (rules, tests, ok-given))
    ∙ all-pairs s c.pairs.result.now c.pairs.ensures.long c.pairs.ensures.each
