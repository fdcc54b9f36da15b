-- Where H is its floor: at every whole pH, since there it is a power of ten, and nowhere else, since it would be so in the first hundred
-- too, where the table's test tells.
use mathlib.Core.Path.{◌≡◌, refl, sym, ap, ap₂, subst, ◌∙◌}
use mathlib.Core.Logic.{◌↔◌}
use Prim.Native.Nat.{ℕ, zero, suc, ◌+◌, ◌-◌, ◌*◌, ◌/◌, ◌%◌, ◌^◌, ◌≤◌}
use native.Mathlib.Nat.{pow-suc, mul-suc}
use native.Mathlib.Omega.{arith}
use lib.Pow.{pow-add}
use borrow.Author.Tests.{eqb-true, eq-eqb}
use Rattle.hydrogen.specs.Floors.{least_ph, greatest_ph, WholePh, hundredth, power, floor_at}
use Rattle.hydrogen.specs.SmallerTable.{per_ph}
use Rattle.hydrogen.proofs.Powers.{of-product}
use Rattle.hydrogen.proofs.Root.{exact-by}
use Rattle.hydrogen.proofs.HundredLaws.{power-before, entry_for, hundreds_to, from-entry}
use Rattle.hydrogen.proofs.FloorTable.{entry_whole}

-- the hundredth power of a power of ten
of-tens : (k : ℕ) → hundredth (10 ^ k) ≡ 10 ^ (per_ph * k)
of-tens zero = refl
of-tens (suc k) =
    ap hundredth (pow-suc 10 k) ∙ of-product (10 ^ k) 10 ∙ ap (λ (n : ℕ). n * hundredth 10) (of-tens k)
    ∙ sym (pow-add 10 (per_ph * k) per_ph)
    ∙ ap (λ (n : ℕ). 10 ^ n) (sym (mul-suc per_ph k))

-- so ten to a multiple of 100 is one
root-of-ten : (n p : ℕ) → p ≤ n → n % per_ph ≡ 0 → p % per_ph ≡ 0 → hundredth (10 ^ ((n - p) / per_ph)) ≡ 10 ^ (n - p)
root-of-ten n p l e f =
    let all : per_ph * ((n - p) / per_ph) ≡ n - p = omega arith in
    of-tens ((n - p) / per_ph) ∙ ap (λ (m : ℕ). 10 ^ m) all

-- at a whole pH H is its floor
whole-exact : (p : ℕ) → p ≤ greatest_ph → WholePh p → hundredth (floor_at p) ≡ power p
unfolding power
whole-exact p u w = exact-by p _ (root-of-ten _ p (omega arith) refl (eqb-true (p % per_ph) 0 w))

-- where H is its floor k hundreds further, it is its floor here too: 10^k times that one
exact-before : (p k : ℕ) → p + per_ph * k ≤ greatest_ph → hundredth (floor_at (p + per_ph * k)) ≡ power (p + per_ph * k) → hundredth (floor_at p) ≡ power p
exact-before p k u e =
    exact-by p (floor_at (p + per_ph * k) * 10 ^ k)
    (of-product (floor_at (p + per_ph * k)) (10 ^ k) ∙ ap₂ (λ (m n : ℕ). m * n) e (of-tens k) ∙ sym (power-before p (per_ph * k) u))

-- so it is its floor at a whole pH alone
exact-whole : (p : ℕ) → least_ph ≤ p → p ≤ greatest_ph → hundredth (floor_at p) ≡ power p → WholePh p
exact-whole p l u e = eq-eqb (p % per_ph) 0 (omega (arith, eqb-true (entry_for p % per_ph) 0 (entry_whole ((p - least_ph) % per_ph) (omega arith) first)))
  where
    first : hundredth (floor_at (entry_for p)) ≡ power (entry_for p)
    first =
        exact-before (entry_for p) (hundreds_to p) (omega arith)
        (subst (λ (n : ℕ). hundredth (floor_at n) ≡ power n) (sym (from-entry p l)) e)

pub floor-exact : (p : ℕ) → least_ph ≤ p → p ≤ greatest_ph → WholePh p ↔ (hundredth (floor_at p) ≡ power p)
floor-exact p l u = (whole-exact p u, exact-whole p l u)
