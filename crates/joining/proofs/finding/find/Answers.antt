-- The charts from the place of the loop on decide what is found.
use Rattle.joining.proofs.WalkLaws.{words-there, there-here, seek-begins, seek_found, seek-next, seek-end}
use borrow.Author.Rules.{rules}
use Rattle.joining.proofs.finding.find.Goals as goal

pub slice_bounds-rest-count : goal.slice_bounds-rest-count
slice_bounds-rest-count c = search (rules, words-there)

pub slice_bounds-rest-start : goal.slice_bounds-rest-start
slice_bounds-rest-start c = search (rules, words-there)

pub bounds-words-0 : goal.bounds-words-0
bounds-words-0 c = search (rules, words-there)

pub loop-init : goal.loop-init
loop-init c = seek-begins _ _ c.requires

pub split-requires : goal.split-requires
split-requires c = there-here _ _ _ c.loop.invariant.walk c.loop-test.true

pub returns-then-chart-key : goal.returns-then-chart-key
returns-then-chart-key c = seek_found _ _ _ _ c.loop.invariant c.loop-test.true _ c.split.ensures.chart c.if-chart-key.true

pub loop-preserved : goal.loop-preserved
loop-preserved c = seek-next _ _ _ _ c.loop.invariant c.loop-test.true _ c.split.ensures.chart c.if-chart-key.false c.split.ensures.rest

pub returns : goal.returns
returns c = seek-end _ _ _ _ c.loop.invariant c.loop-test.false
