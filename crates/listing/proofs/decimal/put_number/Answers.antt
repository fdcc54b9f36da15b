-- What the library makes of the number is copied.
use borrow.Author.Rules.{rules}
use mathlib.Core.Path.{◌∙◌}
use Rattle.listing.proofs.DecimalLaws.{decimal-printed}
use Rattle.listing.proofs.decimal.put_number.Goals as goal

pub put-requires : goal.put-requires
put-requires c = search (rules, decimal-printed)

pub returns : goal.returns
returns c = rw (c.as_bytes.ensures.value ∙ c.format.ensures.text ∙ decimal-printed c.args.n (search rules)) at c.put.ensures
