-- Each field by the row's own words.
use borrow.Author.Rules.{rules}
use Rattle.listing.proofs.LineLaws.{row-fields}
use Rattle.listing.proofs.lines.fields.Goals as goal

pub returns : goal.returns
returns c =
    rw (row-fields c.args.row.now (search rules), c.whole.ensures.answer, c.from.ensures, c.from-2.ensures, c.from-3.ensures, c.from-4.ensures, c.from-5.ensures)
