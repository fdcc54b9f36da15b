-- The billionth of a number, rounded to odd, compares with every even number as the number itself does with so many billions. So a
-- verdict on conductivity by rounded products is that by the products, since the limits of a measured value are even numbers.
use mathlib.Core.Path.{◌≡◌, refl, sym, ap, ◌∙◌}
use mathlib.Core.Bool.{Bool, true, false, cond}
use mathlib.Core.Logic.{◌↔◌}
use Prim.Native.Nat.{ℕ, suc, ◌+◌, ◌-◌, ◌*◌, ◌/◌, ◌%◌, ◌^◌, ◌≤◌, ◌<◌}
use native.Mathlib.Nat.{mul-le-mul, mul-add, div-add-mod'}
use native.Mathlib.Omega.{arith}
use lib.Dec.{eqb, lit≤}
use borrow.Author.Tests.{eqb-true, eqb-false}
use Rattle.refusal.proofs.Testing.{leb-same}
use Rattle.activity.specs.Brackets.{unit}
use Rattle.solution.specs.Ions.{cation_factor, anion_factor, conductance, sum}
use Rattle.solution.specs.Solutions.{SumRanges}
use Rattle.solution.specs.Steps.{most_sums, Bounded}
use Rattle.judge.specs.Classes.{percent}
use Rattle.judge.specs.Corners.{above, decided}
use Rattle.judge.specs.Conductivity.{conductivity_window}
use Rattle.judge.specs.Ranges.{correction_in}
use Rattle.judge.specs.ByValue.{corrected_by}
use Rattle.judge.specs.Steps.{to_odd}

-- from one even number of billions to the next
abbrev two : ℕ
two = 2 * unit

-- ---- what o is to n
pub data Rounded (n : ℕ) : ℕ → Type 0 where
  exact : (q : ℕ) → n ≡ q * two → Rounded n (2 * q)
  between : (q : ℕ) → q * two < n → n < (q + 1) * two → Rounded n (2 * q + 1)

pub rounded : (n : ℕ) → Rounded n (to_odd n)
unfolding to_odd
rounded n = go (eqb (n % two) 0) refl
  where
    q : ℕ
    q = n / two

    go : (b : Bool) → eqb (n % two) 0 ≡ b → Rounded n (cond b (2 * q) (2 * q + 1))
    go true e = Rounded.exact q (omega (arith, eqb-true (n % two) 0 e))
    go false e = Rounded.between q (omega (arith, eqb-false (n % two) 0 e)) (omega arith)

-- ---- the code's way to the billionths y of p: by both parts of p
most-calculated : most_sums.calculated ≤ unit * unit
unfolding sum cation_factor anion_factor conductance
most-calculated = lit≤ tt

module _ (y p : ℕ) (small : y ≤ unit + 1) (some : p ≤ most_sums.calculated) where
  abbrev whole : ℕ
  whole = y * (p / two)

  abbrev rest : ℕ
  rest = y * (p % two)

  rest-most : rest ≤ (unit + 1) * two
  rest-most = mul-le-mul {n₁ = y} {m₁ = p % two} {n₂ = unit + 1} {m₂ = two} small (omega arith)

  whole-most : whole ≤ (unit + 1) * unit
  whole-most = mul-le-mul {n₁ = y} {m₁ = p / two} {n₂ = unit + 1} {m₂ = unit} small (omega (arith, most-calculated))

  pub rest-fits : y * (p % two) < 2 ^ 64
  rest-fits = omega (arith, rest-most)

  pub whole-fits : y * (p / two) < 2 ^ 64
  whole-fits = omega (arith, whole-most)

  pub parts-fit : y * (p / two) + y * (p % two) / two < 2 ^ 64
  parts-fit = omega (arith, rest-most, whole-most)

  pub even-fits : 2 * (y * (p / two) + y * (p % two) / two) + 1 < 2 ^ 64
  even-fits = omega (arith, rest-most, whole-most)

  in_parts : y * p ≡ two * whole + rest
  in_parts = ap (λ (u : ℕ). y * u) (sym (div-add-mod' p two)) ∙ omega (arith, mul-add y (p / two * two) (p % two))

  same_rest : y * p % two ≡ rest % two
  same_rest = omega (arith, in_parts)

  same_whole : y * p / two ≡ whole + rest / two
  same_whole = omega (arith, in_parts)

  pub even_is : eqb (y * (p % two) % two) 0 ≡ true → 2 * (y * (p / two) + y * (p % two) / two) ≡ to_odd (y * p)
  unfolding to_odd
  even_is t = rw (same_rest, same_whole, t)

  pub odd_is : eqb (y * (p % two) % two) 0 ≡ false → 2 * (y * (p / two) + y * (p % two) / two) + 1 ≡ to_odd (y * p)
  unfolding to_odd
  odd_is t = rw (same_rest, same_whole, t)

-- ---- order
pub rounded-rises : {m n o k : ℕ} → Rounded m o → Rounded n k → m ≤ n → o ≤ k
rounded-rises (Rounded.exact q e) (Rounded.exact q' e') l = omega arith
rounded-rises (Rounded.exact q e) (Rounded.between q' a b) l = omega arith
rounded-rises (Rounded.between q a b) (Rounded.exact q' e') l = omega arith
rounded-rises (Rounded.between q a b) (Rounded.between q' a' b') l = omega arith

pub rounded-near : {n o : ℕ} → Rounded n o → unit * o ≤ n + unit
rounded-near (Rounded.exact q e) = omega arith
rounded-near (Rounded.between q a b) = omega arith

-- against the even number 2 k
record Against (n o k : ℕ) : Type 0 where
  pub over : (2 * k < o) ↔ (k * two < n)
  pub least : (2 * k ≤ o) ↔ (k * two ≤ n)
  pub under : (o < 2 * k) ↔ (n < k * two)
  pub most : (o ≤ 2 * k) ↔ (n ≤ k * two)

against : {n o : ℕ} → Rounded n o → (k : ℕ) → Against n o k
against (Rounded.exact q e) k =
    record {
      over = (λ h. omega arith, λ h. omega arith);
      least = (λ h. omega arith, λ h. omega arith);
      under = (λ h. omega arith, λ h. omega arith);
      most = (λ h. omega arith, λ h. omega arith);
    }
against (Rounded.between q a b) k =
    record {
      over = (λ h. omega arith, λ h. omega arith);
      least = (λ h. omega arith, λ h. omega arith);
      under = (λ h. omega arith, λ h. omega arith);
      most = (λ h. omega arith, λ h. omega arith);
    }

-- ---- the tests of a window in percent with an end of g percent, against a measured value of 200 m
module _ (g m : ℕ) {n o : ℕ} (r : Rounded n o) where
  abbrev at : Against n o (g * m)
  at = against r (g * m)

  above-high : (reached : Bool) → above reached o (200 * m) g percent ≡ above reached n (unit * (200 * m)) g percent
  above-high true =
      leb-same (suc (g * (200 * m))) (percent * o) (suc (g * (unit * (200 * m)))) (percent * n)
      (λ h. omega (arith, at.over.0 (omega arith))) (λ h. omega (arith, at.over.1 (omega arith)))
  above-high false =
      leb-same (g * (200 * m)) (percent * o) (g * (unit * (200 * m))) (percent * n)
      (λ h. omega (arith, at.least.0 (omega arith))) (λ h. omega (arith, at.least.1 (omega arith)))

  above_low : (reached : Bool) → above reached g percent o (200 * m) ≡ above reached g percent n (unit * (200 * m))
  above_low true =
      leb-same (suc (o * percent)) (200 * m * g) (suc (n * percent)) (unit * (200 * m) * g)
      (λ h. omega (arith, at.under.0 (omega arith))) (λ h. omega (arith, at.under.1 (omega arith)))
  above_low false =
      leb-same (o * percent) (200 * m * g) (n * percent) (unit * (200 * m) * g)
      (λ h. omega (arith, at.most.0 (omega arith))) (λ h. omega (arith, at.most.1 (omega arith)))

rounded-decided : (M m₀ m₁ : ℕ) (reached : Bool) {n₀ n₁ o₀ o₁ : ℕ} → Rounded n₀ o₀ → Rounded n₁ o₁
    → decided (conductivity_window M) reached o₀ o₁ (200 * m₀) (200 * m₁) ≡ decided (conductivity_window M) reached n₀ n₁ (unit * (200 * m₀)) (unit * (200 * m₁))
unfolding decided
rounded-decided M m₀ m₁ reached r₀ r₁ =
    let a = above-high (percent + M) m₁ r₀ reached in
    let b = above_low (percent - M) m₀ r₁ reached in
    let c = above-high (percent + M) m₀ r₁ true in
    let d = above_low (percent - M) m₁ r₀ true in
    cc

-- ---- so of sums whose measured value is in tenths
module _ (x : SumRanges) (b : Bounded x) (M : ℕ) where
  pub corrected-decided : {v : ℕ}
      → v ≡ decided (conductivity_window M) x.whole
      (to_odd ((correction_in x).least * x.least.calculated)) (to_odd ((correction_in x).most * x.most.calculated)) x.least.measured x.most.measured
      → v ≡ corrected_by (correction_in x) (conductivity_window M) x
  corrected-decided e =
      let least : x.least.measured ≡ 200 * (x.least.measured / 200) = omega (arith, b.least_tenths) in
      let most : x.most.measured ≡ 200 * (x.most.measured / 200) = omega (arith, b.most_tenths) in
      let same =
      rounded-decided M (x.least.measured / 200) (x.most.measured / 200) x.whole
      (rounded ((correction_in x).least * x.least.calculated)) (rounded ((correction_in x).most * x.most.calculated)) in
      cc
