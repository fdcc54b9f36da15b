-- `Joining` holds before each turn; each way out is a law of it.
use Rattle.std.proofs.lemmas.Result.{err_from_is_err_and}
use Rattle.joining.proofs.WalkLaws.{words-there, there-here}
use Rattle.joining.proofs.FirstLaws.{joining-begins, joining-few, joining-next, joining-refused, joining-done}
use borrow.Author.Rules.{rules}
use Rattle.joining.proofs.first.join_first.Goals as goal

pub slice_bounds-rest-count : goal.slice_bounds-rest-count
slice_bounds-rest-count c = let there = words-there _ c.requires.0 in search rules

pub slice_bounds-rest-start : goal.slice_bounds-rest-start
slice_bounds-rest-start c = let there = words-there _ c.requires.0 in search rules

pub bounds-first-0 : goal.bounds-first-0
bounds-first-0 c = let there = words-there _ c.requires.0 in search rules

pub loop-init : goal.loop-init
loop-init c = joining-begins _ _ _ c.requires.0 c.requires.1 c.requires.2

pub split-requires : goal.split-requires
split-requires c = there-here _ _ _ c.loop.invariant.walk c.loop-test.true

pub join_one-requires : goal.join_one-requires
join_one-requires c = (c.loop.invariant.has, joining-few _ _ _ _ _ c.loop.invariant c.loop-test.true)

pub returns-in_err-join_one : goal.returns-in_err-join_one
returns-in_err-join_one c =
    let p = err_from_is_err_and c.from_residual.result c.from_residual.ensures.1 in
    rw (p.1, p.2) (joining-refused _ _ _ _ _ c.loop.invariant c.loop-test.true _ c.split.ensures.chart _ _ c.join_one.ensures c.in_err-join_one.was)

pub loop-preserved : goal.loop-preserved
loop-preserved c =
    joining-next _ _ _ _ _ c.loop.invariant c.loop-test.true _ c.split.ensures.chart _ _ c.join_one.ensures c.in_ok-join_one.was c.split.ensures.rest

pub returns : goal.returns
returns c = joining-done _ _ _ _ _ c.loop.invariant c.loop-test.false
