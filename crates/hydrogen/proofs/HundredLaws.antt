-- A hundred further in p, a unit of pH: H is a tenth of what it was, and its floor is the floor before divided by ten, rounded down.
-- From the rule of hundredth powers, at every p up to the greatest.
use mathlib.Core.Path.{◌≡◌, sym, ap, ◌∙◌}
use Prim.Native.Nat.{ℕ, zero, suc, ◌+◌, ◌-◌, ◌*◌, ◌/◌, ◌%◌, ◌^◌, ◌≤◌, ◌<◌}
use native.Mathlib.Nat.{le_trans, lt_of_lt_of_le, le_of_mul-le-mul_right, lt_of_mul-lt-mul_right, pow-suc, div-one, div-div-eq-div-mul}
use native.Mathlib.Omega.{arith}
use lib.Pow.{pow-add}
use Rattle.hydrogen.specs.Floors.{least_ph, greatest_ph, hundredth, power, floor_at}
use Rattle.hydrogen.specs.SmallerTable.{per_ph, DividesByTen}
use Rattle.hydrogen.proofs.Powers.{of-product, keeps-le, keeps-some}
use Rattle.hydrogen.proofs.Root.{floor-low, floor-high, floor-is}

-- m fewer in the exponent
fewer : (b n m p : ℕ) → p + m ≤ n → b ^ (n - p) ≡ b ^ (n - (p + m)) * b ^ m
fewer b n m p u = let split : n - p ≡ (n - (p + m)) + m = omega arith in rw split (pow-add b (n - (p + m)) m)

-- the power of H is that so much further, times as many tens
pub power-before : (p m : ℕ) → p + m ≤ greatest_ph → power p ≡ power (p + m) * 10 ^ m
unfolding power
power-before p m u = fewer 10 _ m p (omega arith)

pub divides-by-ten : DividesByTen
divides-by-ten p u = floor-is (p + per_ph) q low high
  where
    q : ℕ
    q = floor_at p / 10

    before : power p ≡ power (p + per_ph) * hundredth 10
    before = power-before p per_ph u

    low : hundredth q ≤ power (p + per_ph)
    low =
        le_of_mul-le-mul_right
        (rw (← of-product q 10, ← before) (le_trans (keeps-le {a = q * 10} (omega arith)) (floor-low p)))
        (keeps-some 10 (omega arith))

    high : power (p + per_ph) < hundredth (q + 1)
    high =
        lt_of_mul-lt-mul_right (hundredth 10)
        (rw (← of-product (q + 1) 10, ← before) (lt_of_lt_of_le (floor-high p) (keeps-le {b = (q + 1) * 10} (omega arith))))

-- k hundreds further: k divisions by ten, each rounded down, are one by a power of ten
floor-further : (p k : ℕ) → p + per_ph * k ≤ greatest_ph → floor_at (p + per_ph * k) ≡ floor_at p / 10 ^ k
floor-further p zero u = let here : p + per_ph * 0 ≡ p = omega arith in rw here (sym (div-one (floor_at p)))
floor-further p (suc k) u =
    let next : p + per_ph * suc k ≡ p + per_ph * k + per_ph = omega arith in
    rw next
    (divides-by-ten (p + per_ph * k) (omega arith) ∙ ap (λ (n : ℕ). n / 10) (floor-further p k (omega arith))
    ∙ div-div-eq-div-mul (floor_at p) (10 ^ k) 10
    ∙ ap (λ (n : ℕ). floor_at p / n) (sym (pow-suc 10 k)))

-- the p of the entry that the floor at p is made from
abbrev pub entry_for : ℕ → ℕ
entry_for p = least_ph + (p - least_ph) % per_ph

-- how many hundreds p is beyond that
abbrev pub hundreds_to : ℕ → ℕ
hundreds_to p = (p - least_ph) / per_ph

pub from-entry : (p : ℕ) → least_ph ≤ p → entry_for p + per_ph * hundreds_to p ≡ p
from-entry p l = omega arith

-- so the floor at every p is made from an entry of the table
pub floor-from-entry : (p : ℕ) → least_ph ≤ p → p ≤ greatest_ph → floor_at p ≡ floor_at (entry_for p) / 10 ^ hundreds_to p
floor-from-entry p l u = ap floor_at (sym (from-entry p l)) ∙ floor-further (entry_for p) (hundreds_to p) (omega arith)
