-- Na/Cl and nitrogen are checks of two sums: sound, with document 01's inequalities.
use mathlib.Core.Path.{◌≡◌, refl}
use mathlib.Core.Bool.{Bool, true, false}
use mathlib.Core.Logic.{◌↔◌, ◌⊎◌, inl, inr}
use Prim.Native.Nat.{ℕ, zero, suc, ◌+◌, ◌*◌, ◌≤◌, ◌<◌}
use native.Mathlib.Nat.{add-mul}
use native.Mathlib.Decide.{dec_lt}
use native.Mathlib.Omega.{arith}
use lib.Dec.{eqb, lit<}
use borrow.Author.Tests.{eqb-true, eq-eqb, ne_eqb}
use Rattle.record.specs.Record.{readings, ammonium, sodium, nitrate, chloride, total_nitrogen}
use Rattle.solution.specs.Ions.{cation_charge, anion_charge, sum}
use Rattle.judge.specs.Choices.{Choice}
use Rattle.judge.specs.Corners.{only, Passes}
use Rattle.judge.specs.Ratios.{SodiumChloride, sodium_chloride_check, Nitrogen, nitrogen_check}
use Rattle.judge.proofs.CornerLaws.{Sound}

-- a sum that weighs one reading is its weight times its amount: nothing up to the reading, and nothing more after it
module _ (i w : ℕ) (a : ℕ → ℕ) where
  abbrev term : ℕ → ℕ
  term j = only i w j * a j

  own : (j : ℕ) → j ≡ i → term j ≡ w * a i
  own j e = rw (e, eq-eqb i i refl)

  other : (j : ℕ) → (j ≡ i → ⊥) → term j ≡ 0
  other j n = rw (ne_eqb j i n) (omega arith)

  none_before : (n : ℕ) → n ≤ i → sum term n ≡ 0
  unfolding sum
  none_before zero l = refl
  none_before (suc n) l = omega (arith, none_before n (omega arith), other n (λ e. omega arith))

  sum-once : (n : ℕ) → i < n → sum term n ≡ w * a i
  unfolding sum
  sum-once zero l = absurd (omega arith)
  sum-once (suc n) l = go (dec_lt i n) (sum-once n)
    where
      go : Dec (i < n) → (i < n → sum term n ≡ w * a i) → sum term (suc n) ≡ w * a i
      go (yes b) before = omega (arith, before b, other n (λ e. omega arith))
      go (no b) before = omega (arith, none_before n (omega (arith, b)), own n (omega (arith, b)))

  pub only_sum : i < readings → sum (λ j. only i w j * a j) readings ≡ w * a i
  only_sum l = sum-once readings l

-- a sum whose weights are sums themselves is the sum of two
both : (v w a : ℕ → ℕ) (n : ℕ) → sum (λ j. (v j + w j) * a j) n ≡ sum (λ j. v j * a j) n + sum (λ j. w j * a j) n
unfolding sum
both v w a zero = refl
both v w a (suc n) = omega (arith, both v w a n, add-mul (v n) (w n) (a n))

pub mineral-only : (a : ℕ → ℕ) → sum (λ j. (only nitrate 1 j + only ammonium 1 j) * a j) readings ≡ a nitrate + a ammonium
mineral-only a = omega (arith, both (only nitrate 1) (only ammonium 1) a readings, only_sum nitrate 1 a (lit< tt), only_sum ammonium 1 a (lit< tt))

-- what weighs one reading has none in common with weights that are 0 there
apart : (f : ℕ → ℕ) (i w j : ℕ) → f i ≡ 0 → (f j ≡ 0) ⊎ (only i w j ≡ 0)
apart f i w j none = go (eqb j i) refl
  where
    go : (b : Bool) → eqb j i ≡ b → (f j ≡ 0) ⊎ (only i w j ≡ 0)
    go true e = inl (rw (eqb-true j i e) none)
    go false e = inr (rw e)

pub ratio-sound : Sound sodium_chloride_check
ratio-sound =
    record {
      high = omega arith;
      low = omega arith;
      window = omega arith;
      disjoint = λ j. apart (only sodium (cation_charge sodium)) chloride (anion_charge chloride) j refl;
    }

pub ratio-passes : (c : Choice) → Passes sodium_chloride_check c ↔ SodiumChloride c
ratio-passes c =
    let na = only_sum sodium (cation_charge sodium) c.amount (lit< tt) in
    let cl = only_sum chloride (anion_charge chloride) c.amount (lit< tt) in
    (λ w. record { low = omega (arith, w.low); high = omega (arith, w.high) }, λ w. record { high = omega (arith, w.high); low = omega (arith, w.low) })

pub nitrogen-sound : Sound nitrogen_check
nitrogen-sound =
    record {
      high = omega arith;
      low = omega arith;
      window = omega arith;
      disjoint = λ j. apart (λ i. only nitrate 1 i + only ammonium 1 i) total_nitrogen 1 j refl;
    }

pub nitrogen-passes : (c : Choice) → Passes nitrogen_check c ↔ Nitrogen c
nitrogen-passes c =
    let total = only_sum total_nitrogen 1 c.amount (lit< tt) in
    let mineral = mineral-only c.amount in
    (λ w. record { holds = omega (arith, w.high) }, λ w. record { high = omega (arith, w.holds); low = omega arith })
