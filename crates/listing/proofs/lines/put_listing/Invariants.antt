use Rattle.listing.specs.Listing.{listing_text}
use Rattle.listing.proofs.LineLaws.{lines_after}
use Rattle.listing.proofs.PartLaws.{Left}
use Rattle.listing.proofs.lines.put_listing.Given as goal

abbrev pub invariant-loop-row : goal.invariant-loop-row
invariant-loop-row l = Left l.fn.text (listing_text l.answer) l.text l.size (lines_after l.answer l.row-index)
