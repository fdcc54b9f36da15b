-- The greatest and the least fraction that a check sets for hydrogen at a choice of amounts and of a correction.
use mathlib.Core.Logic.{◌↔◌}
use Prim.Native.Nat.{ℕ, ◌+◌, ◌*◌, ◌≤◌, ◌<◌}
use native.Mathlib.Nat.{mul-le-mul_left, le_of_mul-le-mul_left}
use native.Mathlib.Omega.{arith}
use lib.IntN.{pos, sub_ℕ}
use Rattle.hydrogen.specs.TrueHydrogen.{FractionLe}
use Rattle.hydrogen.proofs.Laws.{at-most-bound, at-least-bound}
use Rattle.judge.specs.Choices.{Choice}
use Rattle.judge.specs.AtHydrogen.{Bounds, AtFraction}
use Rattle.judge.specs.Corners.{part_of, Check, factor, factor_divisor, Passes}

-- sums q n + X and Y, d times, the first multiplied by F / G, in a test with factors f and g: the fraction n / d against the bound
-- (g G Y − f F X) / (f F q d); and the same of a whole number n
module _ (d : ℕ) (divides : 0 < d) (q X Y F G f g : ℕ) where
  most-bound : (n : ℕ) → FractionLe (pos n) d (sub_ℕ (g * (G * Y)) (f * (F * X))) (f * (F * q) * d) ↔ (f * (F * (q * n + X)) ≤ g * (G * Y))
  most-bound n =
      let w = at-most-bound n d (f * (F * q) * d) (f * (F * X)) (g * (G * Y)) divides in
      (λ e. le_of_mul-le-mul_left {k = d} (omega (arith, w.0 e)) divides, λ e. w.1 (omega (arith, mul-le-mul_left d e)))

  least-bound : (n : ℕ) → FractionLe (sub_ℕ (g * (G * Y)) (f * (F * X))) (f * (F * q) * d) (pos n) d ↔ (g * (G * Y) ≤ f * (F * (q * n + X)))
  least-bound n =
      let w = at-least-bound n d (f * (F * q) * d) (f * (F * X)) (g * (G * Y)) divides in
      (λ e. le_of_mul-le-mul_left {k = d} (omega (arith, w.0 e)) divides, λ e. w.1 (omega (arith, mul-le-mul_left d e)))

  pub most-whole : (n : ℕ) → FractionLe (pos n) 1 (sub_ℕ (g * (G * Y)) (f * (F * X))) (f * (F * q) * d) ↔ (f * (F * (q * (n * d) + X)) ≤ g * (G * Y))
  most-whole n =
      let w = at-most-bound n 1 (f * (F * q) * d) (f * (F * X)) (g * (G * Y)) (omega arith) in (λ e. omega (arith, w.0 e), λ e. w.1 (omega arith))

  pub least-whole : (n : ℕ) → FractionLe (sub_ℕ (g * (G * Y)) (f * (F * X))) (f * (F * q) * d) (pos n) 1 ↔ (g * (G * Y) ≤ f * (F * (q * (n * d) + X)))
  least-whole n =
      let w = at-least-bound n 1 (f * (F * q) * d) (f * (F * X)) (g * (G * Y)) (omega arith) in (λ e. omega (arith, w.0 e), λ e. w.1 (omega arith))

abbrev pub bounds_of : Check → Choice → Bounds
bounds_of k c =
    record {
      most =
          sub_ℕ (k.window.high.numerator * (factor_divisor k.corrected c * part_of k.second c))
          (k.window.high.denominator * (factor k.corrected c * part_of k.first c));
      most_per = k.window.high.denominator * (factor k.corrected c * k.hydrogen) * c.divisor;
      least =
          sub_ℕ (k.window.low.numerator * (factor_divisor k.corrected c * part_of k.second c))
          (k.window.low.denominator * (factor k.corrected c * part_of k.first c));
      least_per = k.window.low.denominator * (factor k.corrected c * k.hydrogen) * c.divisor;
    }

-- a check at a choice is that its hydrogen keeps the bounds
pub passes-bounds : (k : Check) (c : Choice) → 0 < c.divisor → Passes k c ↔ AtFraction c.hydrogen c.divisor (bounds_of k c)
passes-bounds k c divides =
    let F : ℕ = factor k.corrected c in
    let G : ℕ = factor_divisor k.corrected c in
    let X : ℕ = part_of k.first c in
    let Y : ℕ = part_of k.second c in
    let most = most-bound c.divisor divides k.hydrogen X Y F G k.window.high.denominator k.window.high.numerator c.hydrogen in
    let least = least-bound c.divisor divides k.hydrogen X Y F G k.window.low.denominator k.window.low.numerator c.hydrogen in
    (λ w. record { most = most.1 w.high; least = least.1 w.low }, λ w. record { high = most.0 w.most; low = least.0 w.least })
