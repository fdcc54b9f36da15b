-- Powers keep the order of numbers, both ways.
use mathlib.Core.Path.{subst, sym}
use Prim.Native.Nat.{ℕ, zero, suc, ◌*◌, ◌^◌, ◌≤◌, ◌<◌, zero-le}
use native.Mathlib.Nat.{not-le_of_lt, pow-le-pow_left, pow-lt-pow_left, pow-suc, one-le-pow, zero-lt-suc, one-mul, mul-le-mul_right}
use native.Mathlib.Decide.{dec_le}
use native.Mathlib.Omega.{arith}

-- of two numbers, the one with the smaller power is the smaller
pub power-lt-back : (n : ℕ) {a b : ℕ} → a ^ n < b ^ n → a < b
power-lt-back n {a} {b} h = go (dec_le b a)
  where
    go : Dec (b ≤ a) → a < b
    go (yes l) = absurd (not-le_of_lt h (pow-le-pow_left l n))
    go (no f) = omega (arith, f)

pub power-le-back : (n : ℕ) {a b : ℕ} → 0 < n → a ^ n ≤ b ^ n → a ≤ b
power-le-back n {a} {b} some h = go (dec_le a b)
  where
    go : Dec (a ≤ b) → a ≤ b
    go (yes l) = l
    go (no f) = absurd (not-le_of_lt (pow-lt-pow_left {a = b} {b = a} (omega (arith, f)) (λ e. absurd (omega (arith, e)))) h)

-- a number is at most its power
pub le-power : (a n : ℕ) → 0 < n → a ≤ a ^ n
le-power zero n l = zero-le
le-power (suc a) zero l = absurd (omega arith)
le-power (suc a) (suc n) l =
    subst (λ (x : ℕ). suc a ≤ x) (sym (pow-suc (suc a) n))
    (subst (λ (x : ℕ). x ≤ suc a ^ n * suc a) (one-mul (suc a)) (mul-le-mul_right (suc a) (one-le-pow n (suc a) (zero-lt-suc a))))
