-- No arithmetic wraps: the sums and products made of values that are accepted, and of a setup made of such, fit 64 bits.
use mathlib.Core.Path.{◌≡◌, refl}
use mathlib.Core.Bool.{true}
use mathlib.Core.List.{List}
use Prim.Native.Nat.{ℕ, ◌-◌, ◌*◌, ◌^◌, ◌≤◌, ◌<◌}
use native.Mathlib.Nat.{mul-le-mul}
use native.Mathlib.Omega.{arith}
use lib.ListN.{length}
use Rattle.refusal.specs.Differences.{apart}
use Rattle.chart.specs.Values.{all_values, greatest_value, most_setup}
use Rattle.chart.specs.declared.setup.Setup.TheInside.{Inside}
use Rattle.chart.specs.Setups.{square, sum_of, squares_of, setup_of}
use Rattle.chart.specs.Steps.{limit_of, OfValues}
use Rattle.chart.proofs.SpreadLaws.{never-negative}
use Rattle.chart.proofs.SumLaws.{sum-most, squares-most}

-- ---- a setup of values that are accepted
module _ (a : List ℕ) (few : length a ≤ most_setup) (all : all_values a ≡ true) where
  pub squares-fit : squares_of a ≤ most_setup * square greatest_value
  squares-fit = omega (arith, squares-most a all)

  -- n × (n×Q − S²), where n×Q is the greatest number on the way
  pub limit-fits : (length a * squares_of a < 2 ^ 64)
      × (sum_of a * sum_of a ≤ length a * squares_of a)
      × (length a * (length a * squares_of a - sum_of a * sum_of a) < 2 ^ 64)
  limit-fits =
      let most = mul-le-mul few squares-fit in
      let left : length a * squares_of a - sum_of a * sum_of a ≤ most_setup * (most_setup * square greatest_value) = omega (arith, most) in
      (omega (arith, most), never-negative a, omega (arith, mul-le-mul few left))

  pub of-values : 1 ≤ length a
      → OfValues (record { n = length a; sum = sum_of a; squares = squares_of a; limit = limit_of (setup_of a) })
  of-values some =
      record { some = some; few = few; sum = omega (arith, sum-most a all); squares = squares-fit; limit = refl }

-- ---- a value against it
module _ {s : Inside} (g : OfValues s) {v gap : ℕ} (h : v ≤ greatest_value) (e : gap ≡ apart (s.n * v) s.sum) where
  gap-most : gap * gap ≤ square (most_setup * greatest_value)
  gap-most =
      let b : gap ≤ most_setup * greatest_value = omega (arith, mul-le-mul g.few h, g.sum) in
      mul-le-mul b b

  pub right-fits : gap * gap * (s.n - 1) < 2 ^ 64
  right-fits =
      let b : s.n - 1 ≤ most_setup = omega (arith, g.few) in
      omega (arith, mul-le-mul gap-most b)
