-- `Adding` holds before each turn.
use Rattle.joining.proofs.WalkLaws.{words-there, there-here}
use Rattle.joining.proofs.SecondLaws.{adding-begins, adding-few, adding-new, adding-known, adding-done, none-there, some-there}
use borrow.Author.Rules.{rules}
use Rattle.joining.proofs.second.add_second.Goals.{then-is_none, else-is_none}
use Rattle.joining.proofs.second.add_second.Goals as goal

pub slice_bounds-rest-count : goal.slice_bounds-rest-count
slice_bounds-rest-count c = let there = words-there _ c.requires.has_charts.1 in search rules

pub slice_bounds-rest-start : goal.slice_bounds-rest-start
slice_bounds-rest-start c = let there = words-there _ c.requires.has_charts.1 in search rules

pub bounds-second-0 : goal.bounds-second-0
bounds-second-0 c = let there = words-there _ c.requires.has_charts.1 in search rules

pub loop-init : goal.loop-init
loop-init c = adding-begins _ _ _ c.requires.has_charts.0 c.requires.has_charts.1 c.requires.held

pub split-requires : goal.split-requires
split-requires c = there-here _ _ _ c.loop.invariant.walk c.loop-test.true

pub put-requires : goal.put-requires
put-requires c =
    let none = none-there _ c.find.ensures c.is_none.ensures c.if-is_none.true in
    (search rules, adding-few _ _ _ _ _ c.loop.invariant c.loop-test.true _ c.split.ensures.chart none)

pub loop-preserved : goal.loop-preserved
loop-preserved c =
    let a = c.loop.invariant in
    let l = c.loop-test.true in
    let read = c.split.ensures.chart in
    let behind = c.split.ensures.rest in
    elim c.if-is_none.branch [
      | then-is_none w ↦ rw w.buffer-is (adding-new _ _ _ _ _ a l _ read (none-there _ c.find.ensures c.is_none.ensures w.if-is_none.true) w.put.ensures behind)
      | else-is_none w ↦ rw w.buffer-is (adding-known _ _ _ _ _ a l _ read (some-there _ c.find.ensures c.is_none.ensures w.if-is_none.false).1 behind)
    ]

pub returns : goal.returns
returns c = let done = adding-done _ _ _ _ _ c.loop.invariant c.loop-test.false in record { rest = done.0; held = done.1 }
