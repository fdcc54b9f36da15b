-- The word is copied, then the number's line is written after it.
use mathlib.Core.Path.{◌∙◌}
use Rattle.refusal.specs.Numbers.{number_of}
use Rattle.listing.proofs.PartLaws.{left-none, left-room, left-next, first-room, left-first}
use Rattle.listing.proofs.LineLaws.{line_alone, refused-first}
use Rattle.listing.proofs.lines.put_refusal.Goals as goal

pub put-size-requires : goal.put-size-requires
put-size-requires c = first-room c.requires (refused-first (number_of c.args.why))

pub put_line-requires : goal.put_line-requires
put_line-requires c =
    let left = left-first c.requires (refused-first (number_of c.args.why)) c.put-size.ensures.text_after c.put-size.ensures.value in
    left-room left (line_alone (c.from.ensures ∙ c.number.ensures))

pub returns : goal.returns
returns c =
    let left = left-first c.requires (refused-first (number_of c.args.why)) c.put-size.ensures.text_after c.put-size.ensures.value in
    let said = left-none (left-next left (line_alone (c.from.ensures ∙ c.number.ensures)) c.put_line.ensures.text_after c.put_line.ensures.value) in
    record { value = said.0; text_after = said.1 }
