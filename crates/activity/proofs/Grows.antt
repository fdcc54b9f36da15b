-- e = s/(1+s) − 0.3 s² is not below 0 and grows with s: at fractions up to a half, cross-multiplied.
use mathlib.Core.Path.{◌≡◌, ap}
use Prim.Native.Nat.{ℕ, ◌+◌, ◌-◌, ◌*◌, ◌≤◌, ◌<◌}
use native.Mathlib.Nat.{mul-le-mul, mul-le-mul_left, mul-le-mul_right, mul-pos}
use native.Mathlib.Omega.{arith}
use Rattle.activity.specs.Exponent.{gain, loss, top, bottom}
use Rattle.activity.specs.Truth.{UpToHalf, Growing}

-- 0.3 s² is at most s/(1+s)
pub over_zero : (a b : ℕ) → UpToHalf a b → loss a b ≤ gain a b
over_zero a b h =
    let more : 2 * (a + b) ≤ 3 * b = omega arith in
    omega (arith, mul-le-mul_left a (mul-le-mul h more))

-- the difference of two squares
squares-apart : (x g y : ℕ) → x + g ≡ y → y * y ≡ x * x + g * (x + y)
squares-apart x g y e = rw (← e) (omega arith)

-- a top times the other fraction's divisor
scaled : (u a b c d : ℕ) → u + loss a b ≡ gain a b
    → u * (d * d * (c + d)) + 3 * (a * d * (a * d) * ((a + b) * (c + d))) ≡ 10 * (a * d * (c * b) * (b * d) + a * d * (b * d * (b * d)))
scaled u a b c d e = omega (arith, ap (λ (x : ℕ). x * (d * d * (c + d))) e)

scaled-too : (v c d a b : ℕ) → v + loss c d ≡ gain c d
    → v * (b * b * (a + b)) + 3 * (c * b * (c * b) * ((a + b) * (c + d))) ≡ 10 * (a * d * (c * b) * (b * d) + c * b * (b * d * (b * d)))
scaled-too v c d a b e = omega (arith, ap (λ (x : ℕ). x * (b * b * (a + b))) e)

-- the two tops over one divisor: x and y are the fractions' numerators over it, g their gap, k how far the slope is from 0
level : (u v x y r p g k : ℕ) → x + g ≡ y → u + 3 * (x * x * p) ≡ 10 * (x * y * r + x * (r * r))
    → v + 3 * (y * y * p) ≡ 10 * (x * y * r + y * (r * r)) → 30 * (p * (x + y)) + 10 * k ≤ 100 * (r * r) → u + k * g ≤ v
level u v x y r p g k e eu ev s =
    omega (arith, mul-le-mul_right g s, ap (λ (z : ℕ). r * r * z) e, ap (λ (z : ℕ). p * z) (squares-apart x g y e))

module _ (a b c d : ℕ) (sa : UpToHalf a b) (sc : UpToHalf c d) where
  -- what the slope comes to: 30 (1 + s) (1 + t) (s + t) is at most 90
  slope : 30 * ((a + b) * (c + d) * (a * d + c * b)) ≤ 90 * (b * b * (d * d))
  slope =
      let first : 2 * (a + b) ≤ 3 * b = omega arith in
      let second : 2 * (c + d) ≤ 3 * d = omega arith in
      let both : a * d + c * b ≤ b * d = omega (arith, mul-le-mul_right d sa, mul-le-mul_right b sc) in
      omega (arith, mul-le-mul (mul-le-mul first second) both)

  -- u and v are the tops, g the gap of the fractions
  cross : (u v g : ℕ) → u + loss a b ≡ gain a b → v + loss c d ≡ gain c d → a * d + g ≡ c * b
      → u * (d * d * (c + d)) + b * b * (d * d) * g ≤ v * (b * b * (a + b))
  cross u v g eu ev e =
      level (u * (d * d * (c + d))) (v * (b * b * (a + b))) (a * d) (c * b) (b * d) ((a + b) * (c + d)) g (b * b * (d * d)) e
      (scaled u a b c d eu) (scaled-too v c d a b ev) (omega (arith, slope))

  -- both tops with their divisors, and by how much the second is above the first
  apart : a * d ≤ c * b → top a b * bottom c d + 10 * (b * b * (d * d) * (c * b - a * d)) ≤ top c d * bottom a b
  unfolding top bottom
  apart l =
      ten (gain a b - loss a b) (gain c d - loss c d) (d * d * (c + d)) (b * b * (a + b)) (b * b * (d * d) * (c * b - a * d))
      (cross (gain a b - loss a b) (gain c d - loss c d) (c * b - a * d)
      (omega (arith, over_zero a b sa)) (omega (arith, over_zero c d sc)) (omega arith))
    where
      ten : (u v m n k : ℕ) → u * m + k ≤ v * n → u * (10 * m) + 10 * k ≤ v * (10 * n)
      ten u v m n k h = omega arith

  pub not-falling : a * d ≤ c * b → top a b * bottom c d ≤ top c d * bottom a b
  not-falling l = omega (arith, apart l)

  grows : 0 < b → 0 < d → a * d < c * b → top a b * bottom c d < top c d * bottom a b
  grows z z' l =
      let some : 0 < b * b * (d * d) * (c * b - a * d) = mul-pos (mul-pos (mul-pos z z) (mul-pos z' z')) (omega arith) in
      omega (arith, apart (omega arith))

pub growing : Growing
growing = record { over_zero = over_zero; not-falling = not-falling; grows = λ a b c d z z' sa sc l. grows a b c d sa sc z z' l }

-- e is at most 1, and its divisor is not 0
pub top-most : (a b : ℕ) → top a b ≤ bottom a b
unfolding top bottom
top-most a b = omega arith

pub bottom-positive : (a b : ℕ) → 0 < b → 0 < bottom a b
unfolding bottom
bottom-positive a b z = let p : 0 < b * b * (a + b) = mul-pos (mul-pos z z) (omega arith) in omega arith
