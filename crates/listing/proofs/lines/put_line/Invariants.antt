use lib.ListN.{drop}
use Rattle.listing.specs.Listing.{line}
use Rattle.listing.proofs.PartLaws.{Left}
use Rattle.listing.proofs.lines.put_line.Given as goal

abbrev pub invariant-loop-i : goal.invariant-loop-i
invariant-loop-i l = Left l.initial.text (line l.fields) l.text l.size (line (drop l.i l.fields))
