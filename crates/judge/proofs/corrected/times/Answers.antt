-- Both parts of the product fit, and what is left of it says whether the number is even.
use native.Mathlib.Omega.{arith}
use borrow.Author.Tests.{eq-eqb, ne_eqb}
use Rattle.judge.proofs.RoundingLaws.{rest-fits, whole-fits, parts-fit, even-fits, even_is, odd_is}
use Rattle.judge.proofs.corrected.times.Goals as goal

pub overflow_mul-rest : goal.overflow_mul-rest
overflow_mul-rest c = omega (arith, rest-fits _ _ c.requires.0 c.requires.1)

pub overflow_mul-even : goal.overflow_mul-even
overflow_mul-even c = omega (arith, whole-fits _ _ c.requires.0 c.requires.1)

pub overflow_add-even : goal.overflow_add-even
overflow_add-even c = omega (arith, parts-fit _ _ c.requires.0 c.requires.1)

pub overflow_mul-even-2 : goal.overflow_mul-even-2
overflow_mul-even-2 c = omega (arith, even-fits _ _ c.requires.0 c.requires.1)

pub returns-then-rest-eq0 : goal.returns-then-rest-eq0
returns-then-rest-eq0 c = even_is _ _ c.requires.0 c.requires.1 (eq-eqb _ _ c.if-rest-eq0.true)

pub overflow_add-result : goal.overflow_add-result
overflow_add-result c = omega (arith, even-fits _ _ c.requires.0 c.requires.1)

pub returns : goal.returns
returns c = odd_is _ _ c.requires.0 c.requires.1 (ne_eqb _ _ c.if-rest-eq0.false)
