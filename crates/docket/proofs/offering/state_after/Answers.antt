-- Each return is what the definition picks by the tests on the way.
use borrow.Author.Tests.{eq-eqb, ne_eqb}
use Rattle.docket.specs.Offers.{standing_after}
use Rattle.docket.proofs.offering.state_after.Goals as goal

pub returns-then-passed : goal.returns-then-passed
unfolding standing_after
returns-then-passed c = simp c.if-passed.true

pub returns-then-confirms : goal.returns-then-confirms
unfolding standing_after
returns-then-confirms c = simp (c.if-passed.false, c.if-confirms.true)

pub returns-then-count-eq-MOST : goal.returns-then-count-eq-MOST
unfolding standing_after
returns-then-count-eq-MOST c = simp (c.if-passed.false, c.if-confirms.false, eq-eqb _ _ c.if-count-eq-MOST.true)

pub returns-else-count-eq-MOST : goal.returns-else-count-eq-MOST
unfolding standing_after
returns-else-count-eq-MOST c = simp (c.if-passed.false, c.if-confirms.false, ne_eqb _ _ c.if-count-eq-MOST.false)
