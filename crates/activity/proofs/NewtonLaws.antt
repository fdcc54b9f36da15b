-- Newton's step towards the root of a number, from a guess r: it is not below the root, and it is below a guess that is above the root.
use mathlib.Core.Path.{◌≡◌}
use Prim.Native.Nat.{ℕ, zero, suc, min, ◌+◌, ◌-◌, ◌*◌, ◌/◌, ◌≤◌, ◌<◌}
use native.Mathlib.Nat.{mul-le-mul_right, min-eq_left, min-eq_right, lt-div-mul-add, div-lt_iff_lt-mul}
use native.Mathlib.Decide.{dec_le}
use native.Mathlib.Omega.{arith}

-- twice a product is at most the two squares
twice-product : (a b : ℕ) → 2 * (a * b) ≤ a * a + b * b
twice-product a b = go (dec_le a b)
  where
    go : Dec (a ≤ b) → 2 * (a * b) ≤ a * a + b * b
    go (yes l) = let e : a + (b - a) ≡ b = omega arith in rw (← e) (omega arith)
    go (no f) = let e : b + (a - b) ≡ a = omega (arith, f) in rw (← e) (omega arith)

-- with q for x / r, and m for one more than the step
above : (x r q m : ℕ) → x < q * r + r → r + q < 2 * m → x < m * m
above x r q m next twice = omega (arith, next, mul-le-mul_right r twice, twice-product m r)

-- the step is not below the root, whether or not the guess was
pub step-above : (x r : ℕ) → 0 < r → x < ((r + x / r) / 2 + 1) * ((r + x / r) / 2 + 1)
step-above x r some = above x r (x / r) ((r + x / r) / 2 + 1) (lt-div-mul-add some) (omega arith)

-- so the guess is not below the root where it is no more than a number whose square is not below x
pub capped : (x r most : ℕ) → x ≤ most * most → x < (r + 1) * (r + 1) → x < (min r most + 1) * (min r most + 1)
capped x r most h above = go (dec_le r most)
  where
    go : Dec (r ≤ most) → x < (min r most + 1) * (min r most + 1)
    go (yes l) = rw (min-eq_left l) above
    go (no f) = let l : most ≤ r = omega (arith, f) in rw (min-eq_right l) (omega (arith, h))

-- a number whose square is above another is not 0
pub some-above : (x r : ℕ) → x < r * r → 0 < r
some-above x zero h = absurd (omega arith)
some-above x (suc r) h = omega arith

-- the step from a guess above the root is below it
pub step-below : (x r : ℕ) → x < r * r → (r + x / r) / 2 < r
step-below x r h = let less : x / r < r = (div-lt_iff_lt-mul (some-above x r h)).1 h in omega (arith, less)
