-- Powers: of a power, and that they keep the order of numbers, both ways; the same of squares.
use mathlib.Core.Path.{◌≡◌, sym, ap, subst, ◌∙◌}
use Prim.Native.Nat.{ℕ, zero, suc, ◌*◌, ◌^◌, ◌≤◌, ◌<◌, zero-le}
use native.Mathlib.Nat.{pow-zero, mul-zero, mul-suc, pow-suc, one-mul, mul-le-mul_right, mul-le-mul}
use native.Mathlib.Decide.{dec_le}
use native.Mathlib.Omega.{arith}
use lib.Pow.{pow-add}
use Rattle.refusal.proofs.Powers.{power-lt-back, power-le-back, le-power}
use Rattle.activity.specs.Floors.{thousandth_power}

pub pow-mul : (a m n : ℕ) → a ^ (m * n) ≡ (a ^ m) ^ n
pow-mul a m zero = ap (λ (x : ℕ). a ^ x) (mul-zero m) ∙ pow-zero a ∙ sym (pow-zero (a ^ m))
pow-mul a m (suc n) =
    ap (λ (x : ℕ). a ^ x) (mul-suc m n) ∙ pow-add a (m * n) m ∙ ap (λ (x : ℕ). x * a ^ m) (pow-mul a m n)
    ∙ sym (pow-suc (a ^ m) n)

-- of two numbers, the one with the smaller thousandth power is the smaller
pub lt_back : {a b : ℕ} → thousandth_power a < thousandth_power b → a < b
lt_back h = power-lt-back _ h

pub le-back : {a b : ℕ} → thousandth_power a ≤ thousandth_power b → a ≤ b
le-back h = power-le-back _ (omega arith) h

pub le-own-power : (a : ℕ) → a ≤ thousandth_power a
le-own-power a = le-power a _ (omega arith)

-- the same of squares
pub square_le : {a b : ℕ} → a ≤ b → a * a ≤ b * b
square_le {a} {b} l = mul-le-mul {n₁ = a} {m₁ = a} {n₂ = b} {m₂ = b} l l

pub square-back : (a b : ℕ) → a * a ≤ b * b → a ≤ b
square-back a b h = go (dec_le a b)
  where
    go : Dec (a ≤ b) → a ≤ b
    go (yes l) = l
    go (no f) = let g : suc b ≤ a = omega (arith, f) in absurd (omega (arith, h, mul-le-mul g g))

pub le-own-square : (a : ℕ) → a ≤ a * a
le-own-square zero = zero-le
le-own-square (suc a) = subst (λ (x : ℕ). x ≤ suc a * suc a) (one-mul (suc a)) (mul-le-mul_right (suc a) (omega arith))
