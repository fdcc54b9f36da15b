-- Whether hydrogen and the correction take part in a check: where the ends of its ratio are reached, and what its first sum is
-- multiplied by.
use mathlib.Core.Path.{◌≡◌, refl}
use mathlib.Core.Bool.{Bool, true, false, true≢false, ◌||◌}
use Prim.Native.Nat.{ℕ, ◌+◌, ◌*◌, ◌≤◌, ◌<◌}
use native.Mathlib.Nat.{mul_comm, mul-pos, lt_of_mul-lt-mul_left, le_refl}
use native.Mathlib.Omega.{arith}
use lib.Dec.{eqb}
use borrow.Author.Tests.{eqb-true, eqb-false}
use Rattle.solution.specs.Solutions.{gap}
use Rattle.judge.specs.Choices.{Ranges, Choice, Values}
use Rattle.judge.specs.Corners.{factor, factor_divisor, bracket_of}
use Rattle.judge.proofs.Mixing.{Proper}

-- where the ends are not reached, hydrogen plays a part
pub counts : (q : ℕ) (b : Bool) → (eqb q 0 || b) ≡ false → 0 < q
counts q b = go (eqb q 0) refl
  where
    go : (z : Bool) → eqb q 0 ≡ z → (z || b) ≡ false → 0 < q
    go true e f = absurd (true≢false f)
    go false e f = omega (arith, eqb-false q 0 e)

-- where hydrogen plays a part, they are reached where it is its floor
pub counting : (q : ℕ) (b : Bool) → 0 < q → (eqb q 0 || b) ≡ b
counting q b some = go (eqb q 0) refl
  where
    go : (z : Bool) → eqb q 0 ≡ z → (z || b) ≡ b
    go true e = absurd (omega (arith, eqb-true q 0 e))
    go false e = refl

-- what the gap adds to the first sum, by whether the ends are reached as by whether hydrogen is its floor
pub added : (q : ℕ) (b : Bool) → q * gap (eqb q 0 || b) ≡ q * gap b
added q b = go (eqb q 0) refl
  where
    go : (z : Bool) → eqb q 0 ≡ z → q * gap (z || b) ≡ q * gap b
    go true e = let none : q ≡ 0 = eqb-true q 0 e in rw none (omega arith)
    go false e = refl

module _ (r : Ranges) (w : Proper r) where
  pub unit-some : (b : Bool) → 0 < (bracket_of b r).unit
  unit-some true = w.unit
  unit-some false = omega arith

  pub least-some : (b : Bool) → 0 < (bracket_of b r).least
  least-some true = w.some
  least-some false = omega arith

-- the factor of a choice is in its bracket
module _ (r : Ranges) (c : Choice) (a : Values r c) where
  pub divisor-some : (b : Bool) → 0 < factor_divisor b c
  divisor-some true = a.correction.divides
  divisor-some false = omega arith

  pub factor-over : (b : Bool) → (bracket_of b r).least * factor_divisor b c ≤ (bracket_of b r).unit * factor b c
  factor-over true = a.correction.over
  factor-over false = le_refl _

  pub factor-under : (b : Bool) → (bracket_of b r).unit * factor b c ≤ (bracket_of b r).most * factor_divisor b c
  factor-under true = a.correction.under
  factor-under false = le_refl _

  -- so it is above 0, since its least is
  pub factor-some : Proper r → (b : Bool) → 0 < factor b c
  factor-some w b = lt_of_mul-lt-mul_left (bracket_of b r).unit (omega (arith, mul-pos (least-some r w b) (divisor-some b), factor-over b))

-- and is at its ends or between them where the correction is
module _ (r : Ranges) (c : Choice) where
  pub factor-least : (b : Bool) → c.correction ≡ r.correction.least → factor b c ≡ (bracket_of b r).least
  factor-least true e = e
  factor-least false e = refl

  pub factor-most : (b : Bool) → c.correction ≡ r.correction.most → factor b c ≡ (bracket_of b r).most
  factor-most true e = e
  factor-most false e = refl

  pub divisor-unit : (b : Bool) → c.correction_divisor ≡ r.correction.unit → factor_divisor b c ≡ (bracket_of b r).unit
  divisor-unit true e = e
  divisor-unit false e = refl

  pub factor-mix : (b : Bool) (m n : ℕ)
      → c.correction ≡ r.correction.least * m + r.correction.most * n → c.correction_divisor ≡ r.correction.unit * (m + n)
      → factor b c * ((bracket_of b r).unit * (m + n)) ≡ factor_divisor b c * ((bracket_of b r).least * m + (bracket_of b r).most * n)
  factor-mix true m n e f = rw (e, f) (mul_comm _ _)
  factor-mix false m n e f = omega arith
