-- The line of the count is written; after each turn the lines of the rows that are left have to be written behind it.
use native.Mathlib.Omega.{arith}
use Rattle.listing.proofs.PartLaws.{left-none, left-room, left-next, first-room, left-first}
use Rattle.listing.proofs.LineLaws.{count-first, rows-count, row-next, rows_end}
use Rattle.listing.proofs.lines.put_listing.Goals as goal

pub put_line-size-requires : goal.put_line-size-requires
put_line-size-requires c = first-room c.requires.room (count-first c.args.answer.now c.from.ensures)

pub loop-row-init : goal.loop-row-init
loop-row-init c =
    left-first c.requires.room (count-first c.args.answer.now c.from.ensures) c.put_line-size.ensures.text_after c.put_line-size.ensures.value

pub put_line-size-requires-in-loop-row : goal.put_line-size-requires-in-loop-row
put_line-size-requires-in-loop-row c =
    let answer = c.args.answer.now in
    let size = c.requires.rows_there in
    left-room c.loop-row.invariant
    (row-next answer size c.loop-row.row-index c.as_chunks.ensures.front c.fields.ensures (omega (arith, c.loop-row-test.true, c.as_chunks.ensures.front_len, rows-count answer size)))

pub loop-row-preserved : goal.loop-row-preserved
loop-row-preserved c =
    let answer = c.args.answer.now in
    let size = c.requires.rows_there in
    left-next c.loop-row.invariant
    (row-next answer size c.loop-row.row-index c.as_chunks.ensures.front c.fields.ensures (omega (arith, c.loop-row-test.true, c.as_chunks.ensures.front_len, rows-count answer size)))
    c.put_line-size-in-loop-row.ensures.text_after c.put_line-size-in-loop-row.ensures.value

pub returns : goal.returns
returns c =
    let answer = c.args.answer.now in
    let all = rows_end answer c.loop-row.row-index (omega (arith, c.loop-row-test.false, c.as_chunks.ensures.front_len, rows-count answer c.requires.rows_there)) in
    let said = left-none (rw all at c.loop-row.invariant) in
    record { value = said.0; text_after = said.1 }
