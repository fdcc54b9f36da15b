-- After i turns the line of the fields after the first i is left to write.
use borrow.Author.Rules.{rules}
use Rattle.listing.proofs.PartLaws.{left-none, left-room, left-next}
use Rattle.listing.proofs.LineLaws.{line-next, line_ends}
use Rattle.listing.proofs.lines.put_line.Goals as goal

pub put_field-size-requires : goal.put_field-size-requires
put_field-size-requires c = left-room c.loop-i.invariant (line-next c.args.fields.now c.loop-i.i (search rules))

pub loop-i-preserved : goal.loop-i-preserved
loop-i-preserved c =
    left-next c.loop-i.invariant (line-next c.args.fields.now c.loop-i.i (search rules))
    c.put_field-size.ensures.text_after c.put_field-size.ensures.value

pub returns : goal.returns
returns c =
    let said = left-none (rw (line_ends c.args.fields.now c.loop-i.i (search rules)) at c.loop-i.invariant) in
    record { value = said.0; text_after = said.1 }
