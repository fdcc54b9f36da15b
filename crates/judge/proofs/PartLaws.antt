-- The sums of a check: of a choice among ranges, of whole amounts, and of a mixture; and amounts that differ by which sum counts
-- them.
use mathlib.Core.Path.{◌≡◌, refl, ap}
use mathlib.Core.Logic.{◌⊎◌, inl, inr}
use Prim.Native.Nat.{ℕ, ◌+◌, ◌*◌, ◌≤◌}
use native.Mathlib.Omega.{arith}
use Rattle.record.specs.Record.{readings}
use Rattle.solution.specs.Ions.{sum}
use Rattle.solution.proofs.SumLaws.{sum_over, sum-under, sum-times, sum-mix, sum_same}
use Rattle.judge.specs.Choices.{Ranges, Choice, Values}
use Rattle.judge.specs.Corners.{Part, part_of, part_at, Check, first_of}
use Rattle.judge.proofs.Mixing.{mix, at}

-- a sum that weighs no reading
pub no-weight : (a : ℕ → ℕ) → sum (λ i. 0 * a i) readings ≡ 0
unfolding sum
no-weight a = omega arith

module _ (p : Part) where
  module _ (r : Ranges) (c : Choice) (a : Values r c) where
    pub part-over : part_at p r.least * c.divisor ≤ part_of p c
    part-over = omega (arith, sum_over p.weight r.least c.amount c.divisor readings a.over)

    pub part-under : part_of p c ≤ part_at p r.greatest * c.divisor
    part-under = omega (arith, sum-under p.weight r.greatest c.amount c.divisor readings a.under)

  -- of whole amounts a that weigh as b does
  pub part-as : (a b : ℕ → ℕ) (k n y d : ℕ) → ((i : ℕ) → p.weight i * a i ≡ p.weight i * b i) → part_of p (at a k n y d) ≡ part_at p b * k
  part-as a b k n y d h =
      omega (arith, sum-times p.weight a k readings, ap (λ (u : ℕ). u * k) (sum_same (λ i. p.weight i * a i) (λ i. p.weight i * b i) readings h))

  pub part-mix : (x z : Choice) → z.divisor ≡ x.divisor → (m n : ℕ) → part_of p (mix x z m n) ≡ part_of p x * m + part_of p z * n
  part-mix x z same m n = omega (arith, sum-mix p.weight x.amount z.amount m n readings, ap (λ (u : ℕ). p.fixed * u * n) same)

pub first-mix : (k : Check) (x z : Choice) → z.divisor ≡ x.divisor → (m n : ℕ) → first_of k (mix x z m n) ≡ first_of k x * m + first_of k z * n
first-mix k x z same m n = omega (arith, part-mix k.first x z same m n)

-- x where the first sum counts the reading, else y: one of the two weights v and w is 0
abbrev pub sel : {A B : Type 0} → A ⊎ B → ℕ → ℕ → ℕ
sel (inl a) x y = y
sel (inr b) x y = x

pub sel-first : {v w : ℕ} (d : (v ≡ 0) ⊎ (w ≡ 0)) (x y : ℕ) → v * sel d x y ≡ v * x
sel-first (inl e) x y = rw e (omega arith)
sel-first (inr e) x y = refl

pub sel-second : {v w : ℕ} (d : (v ≡ 0) ⊎ (w ≡ 0)) (x y : ℕ) → w * sel d x y ≡ w * y
sel-second (inl e) x y = refl
sel-second (inr e) x y = rw e (omega arith)

pub sel-over : {A B : Type 0} (d : A ⊎ B) (m x y : ℕ) → m ≤ x → m ≤ y → m ≤ sel d x y
sel-over (inl e) m x y a b = b
sel-over (inr e) m x y a b = a

pub sel-under : {A B : Type 0} (d : A ⊎ B) (m x y : ℕ) → x ≤ m → y ≤ m → sel d x y ≤ m
sel-under (inl e) m x y a b = b
sel-under (inr e) m x y a b = a
