-- One test, in the definition and in the code.
use borrow.Author.Tests.{eq-eqb, ne_eqb}
use Rattle.listing.specs.Listing.{ending}
use Rattle.listing.proofs.lines.ending.Goals as goal

pub returns-then-after-eq0 : goal.returns-then-after-eq0
unfolding ending
returns-then-after-eq0 c = simp (eq-eqb _ _ c.if-after-eq0.true)

pub returns-else-after-eq0 : goal.returns-else-after-eq0
unfolding ending
returns-else-after-eq0 c = simp (ne_eqb _ _ c.if-after-eq0.false)
