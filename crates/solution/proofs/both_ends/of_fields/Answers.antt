-- By the one test.
use mathlib.Core.Path.{◌∙◌, sym}
use Rattle.solution.proofs.RangeLaws.{ranged, ranges-none, ranges-held}
use Rattle.solution.proofs.both_ends.of_fields.Goals as goal

pub returns-then-not-hold : goal.returns-then-not-hold
returns-then-not-hold c = c.none.ensures ∙ ranges-none _ _ (sym c.hold.ensures ∙ c.if-not-hold.true)

pub of_ranged-requires : goal.of_ranged-requires
of_ranged-requires c = ranged _ _ (sym c.hold.ensures ∙ c.if-not-hold.false)

pub returns : goal.returns
returns c = c.of_ranged.ensures ∙ ranges-held _ _ (sym c.hold.ensures ∙ c.if-not-hold.false)
