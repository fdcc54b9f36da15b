-- The sums that the checks are handed are the corners of the ranges: of each check, the verdict by them is that of its definition.
use mathlib.Core.Path.{◌≡◌, ap}
use mathlib.Core.Bool.{Bool, true}
use mathlib.Core.List.{List}
use Prim.Native.Nat.{ℕ, ◌*◌}
use native.Mathlib.Omega.{arith}
use lib.Dec.{lit<}
use Rattle.activity.specs.Brackets.{unit}
use Rattle.record.specs.Record.{sodium, chloride, total_nitrogen, conductivity_of, alkalinity_of}
use Rattle.solution.specs.Ions.{cation_charge, anion_charge}
use Rattle.solution.specs.Solutions.{SumRanges, sum_ranges_of, least_at, greatest_at, measured_of}
use Rattle.judge.specs.declared.window.Window.{Window}
use Rattle.judge.specs.Corners.{decided, passes_of}
use Rattle.judge.specs.Ranges.{correction_in, correction_with, ranges_of}
use Rattle.judge.specs.IonBalance.{balance_limit, balance_window, balance_check}
use Rattle.judge.specs.Conductivity.{conductivity_limit, conductivity_window, conductivity_check}
use Rattle.judge.specs.Ratios.{sodium_chloride_window, sodium_chloride_check, nitrogen_window, nitrogen_check}
use Rattle.judge.specs.ByValue.{corrected_by}
use Rattle.judge.proofs.PartLaws.{no-weight}
use Rattle.judge.proofs.RatioLaws.{only_sum, mineral-only}

same-corners : (w : Window) (reached : Bool) {x₀ x₁ y₀ y₁ u₀ u₁ v₀ v₁ : ℕ} → x₀ ≡ u₀ → x₁ ≡ u₁ → y₀ ≡ v₀ → y₁ ≡ v₁
    → decided w reached x₀ x₁ y₀ y₁ ≡ decided w reached u₀ u₁ v₀ v₁
same-corners w reached a b c d = λ i. decided w reached (a i) (b i) (c i) (d i)

module _ (s : List ℕ) where
  abbrev x : SumRanges
  x = sum_ranges_of s

  pub balance-corners :
      decided (balance_window (balance_limit (conductivity_of s))) x.whole x.least.cations x.most.cations x.least.anions x.most.anions
      ≡ passes_of (balance_check (balance_limit (conductivity_of s)) (alkalinity_of s)) (ranges_of s)
  balance-corners = same-corners _ _ (omega arith) (omega arith) (omega arith) (omega arith)

  pub conductivity-corners :
      corrected_by (correction_in x) (conductivity_window (conductivity_limit (conductivity_of s))) x
      ≡ passes_of (conductivity_check (conductivity_limit (conductivity_of s)) (alkalinity_of s) (measured_of (conductivity_of s))) (ranges_of s)
  unfolding correction_with
  conductivity-corners =
      same-corners _ _ (cc) (cc) (ap (λ (n : ℕ). unit * n) (omega (arith, no-weight (least_at s)))) (ap (λ (n : ℕ). unit * n) (omega (arith, no-weight (greatest_at s))))

  pub ratio-corners :
      decided sodium_chloride_window true x.least.sodium x.most.sodium x.least.chloride x.most.chloride
      ≡ passes_of sodium_chloride_check (ranges_of s)
  ratio-corners =
      let na = only_sum sodium (cation_charge sodium) in
      let cl = only_sum chloride (anion_charge chloride) in
      same-corners _ _
      (omega (arith, na (least_at s) (lit< tt))) (omega (arith, na (greatest_at s) (lit< tt)))
      (omega (arith, cl (least_at s) (lit< tt))) (omega (arith, cl (greatest_at s) (lit< tt)))

  pub nitrogen-corners :
      decided nitrogen_window true x.least.mineral x.most.mineral x.least.total x.most.total
      ≡ passes_of nitrogen_check (ranges_of s)
  nitrogen-corners =
      let total = only_sum total_nitrogen 1 in
      same-corners _ _
      (omega (arith, mineral-only (least_at s))) (omega (arith, mineral-only (greatest_at s)))
      (omega (arith, total (least_at s) (lit< tt))) (omega (arith, total (greatest_at s) (lit< tt)))
