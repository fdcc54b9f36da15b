-- The products of the ratios fit 64 bits where those of the greatest sums do; those of all fields do.
use Prim.Native.Nat.{ℕ, ◌+◌, ◌*◌, ◌^◌, ◌≤◌, ◌<◌}
use native.Mathlib.Nat.{le_trans, lt_of_le_of_lt, mul_comm, mul-le-mul}
use native.Mathlib.Omega.{arith}
use lib.Dec.{lit<}
use Rattle.activity.specs.Brackets.{unit}
use Rattle.solution.specs.Ions.{cation_factor, anion_factor, conductance, sum}
use Rattle.solution.specs.Solutions.{SumRanges}
use Rattle.solution.specs.Steps.{most_sums, Bounded}
use Rattle.judge.specs.declared.window.Window.{Window}
use Rattle.judge.specs.Classes.{percent, percent_of_mean}
use Rattle.judge.specs.Ranges.{correction_in}
use Rattle.judge.specs.Steps.{to_odd, Room}
use Rattle.judge.specs.IonBalance.{balance_limit, balance_window}
use Rattle.judge.specs.Conductivity.{conductivity_limit, conductivity_window}
use Rattle.judge.specs.Ratios.{sodium_chloride_window}
use Rattle.judge.proofs.LimitLaws.{balance-most, conductivity-most}
use Rattle.judge.proofs.RoundingLaws.{rounded, rounded-rises, rounded-near}
use Rattle.judge.proofs.CorrectionLaws.{correction-ordered, correction-most}

-- no term of a window is above n
record UpTo (n : ℕ) (w : Window) : Type 0 where
  pub low_numerator : w.low.numerator ≤ n
  pub low_denominator : w.low.denominator ≤ n
  pub high_numerator : w.high.numerator ≤ n
  pub high_denominator : w.high.denominator ≤ n

-- so no product is above n times the greatest of first sums up to X and second sums up to Y
module _ (n X Y : ℕ) (firsts : n * X < 2 ^ 64) (seconds : n * Y < 2 ^ 64) where
  times : {a b Z : ℕ} → a ≤ n → b ≤ Z → n * Z < 2 ^ 64 → a * b < 2 ^ 64
  times {a} {b} {Z} h k f = lt_of_le_of_lt (mul-le-mul {n₁ = a} {m₁ = b} {n₂ = n} {m₂ = Z} h k) f

  turned : {a b Z : ℕ} → a ≤ n → b ≤ Z → n * Z < 2 ^ 64 → b * a < 2 ^ 64
  turned {a} {b} h k f = rw (mul_comm b a) (times h k f)

  room : {w : Window} {x₀ x₁ y₀ y₁ : ℕ} → UpTo n w → x₀ ≤ x₁ → x₁ ≤ X → y₀ ≤ y₁ → y₁ ≤ Y → Room w x₀ x₁ y₀ y₁
  room u x x' y y' =
      record {
        best =
            record {
              high = times u.high_numerator y' seconds;
              high_first = times u.high_denominator (le_trans x x') firsts;
              low = turned u.low_numerator (le_trans y y') seconds;
              low_first = turned u.low_denominator x' firsts;
            };
        worst =
            record {
              high = times u.high_numerator (le_trans y y') seconds;
              high_first = times u.high_denominator x' firsts;
              low = turned u.low_numerator y' seconds;
              low_first = turned u.low_denominator (le_trans x x') firsts;
            };
      }

-- of each check
module _ (x : SumRanges) (b : Bounded x) where
  pub balance-room : (measured : ℕ) → Room (balance_window (balance_limit measured)) x.least.cations x.most.cations x.least.anions x.most.anions
  unfolding sum cation_factor anion_factor balance_limit
  balance-room measured =
      let small = balance-most measured in
      room (percent_of_mean + balance_limit 0) most_sums.cations most_sums.anions (lit< tt) (lit< tt)
      (record { low_numerator = omega arith; low_denominator = omega arith; high_numerator = omega arith; high_denominator = omega arith })
      b.ordered.cations b.most.cations b.ordered.anions b.most.anions

  -- corrected and rounded: hardly more than the sum itself
  corrected-most : (correction_in x).most * x.most.calculated ≤ (unit + 1) * most_sums.calculated
  corrected-most = mul-le-mul (correction-most x b) b.most.calculated

  pub conductivity-room : (measured : ℕ)
      → Room (conductivity_window (conductivity_limit measured)) (to_odd ((correction_in x).least * x.least.calculated)) (to_odd ((correction_in x).most * x.most.calculated)) x.least.measured x.most.measured
  unfolding sum cation_factor anion_factor conductance conductivity_limit
  conductivity-room measured =
      let small = conductivity-most measured in
      let least = rounded ((correction_in x).least * x.least.calculated) in
      let most = rounded ((correction_in x).most * x.most.calculated) in
      room (percent + conductivity_limit 0) (most_sums.calculated + unit) most_sums.measured (lit< tt) (lit< tt)
      (record { low_numerator = omega arith; low_denominator = omega arith; high_numerator = omega arith; high_denominator = omega arith })
      (rounded-rises least most (mul-le-mul (correction-ordered x b) b.ordered.calculated)) (omega (arith, rounded-near most, corrected-most))
      b.ordered.measured b.most.measured

  pub ratio-room : Room sodium_chloride_window x.least.sodium x.most.sodium x.least.chloride x.most.chloride
  unfolding cation_factor anion_factor
  ratio-room =
      room sodium_chloride_window.high.numerator most_sums.sodium most_sums.chloride (lit< tt) (lit< tt)
      (record { low_numerator = omega arith; low_denominator = omega arith; high_numerator = omega arith; high_denominator = omega arith })
      b.ordered.sodium b.most.sodium b.ordered.chloride b.most.chloride
