-- n×Q − S² is never negative: for every list of values S² is at most n×Q.
use mathlib.Core.Path.{◌≡◌}
use mathlib.Core.List.{List, [], ◌∷◌}
use Prim.Native.Nat.{ℕ, ◌+◌, ◌-◌, ◌*◌, ◌≤◌}
use native.Mathlib.Decide.{dec_le}
use native.Mathlib.Nat.{mul-add, add-mul, mul_comm}
use native.Mathlib.Omega.{arith}
use lib.ListN.{length}
use Rattle.chart.specs.Setups.{sum_of, squares_of, NeverNegative}

-- 2xy ≤ x² + y²: with y = x + d it is d² that is left over
twice-from : (x d : ℕ) → 2 * (x * (x + d)) ≤ x * x + (x + d) * (x + d)
twice-from x d = omega (arith, mul-add x x d, mul-add (x + d) x d, add-mul x d x, add-mul x d d, mul_comm x d)

twice : (x y : ℕ) → 2 * (x * y) ≤ x * x + y * y
twice x y = go (dec_le x y)
  where
    go : Dec (x ≤ y) → 2 * (x * y) ≤ x * x + y * y
    go (yes h) = let e : x + (y - x) ≡ y = omega arith in rw e at (twice-from x (y - x))
    go (no h) = let e : y + (x - y) ≡ x = omega arith in omega (arith, rw e at (twice-from y (x - y)), mul_comm x y)

-- that for one value and each of a list
cross : (x : ℕ) (l : List ℕ) → 2 * (x * sum_of l) ≤ squares_of l + length l * (x * x)
unfolding sum_of squares_of
cross x [] = omega (arith, mul_comm x 0)
cross x (y ∷ l) = omega (arith, twice x y, cross x l, mul-add x y (sum_of l), add-mul 1 (length l) (x * x))

pub never-negative : NeverNegative
unfolding sum_of squares_of
never-negative [] = omega arith
never-negative (x ∷ l) =
    omega (
      arith,
      never-negative l,
      cross x l,
      mul-add (x + sum_of l) x (sum_of l),
      add-mul x (sum_of l) x,
      add-mul x (sum_of l) (sum_of l),
      mul_comm x (sum_of l),
      add-mul 1 (length l) (x * x + squares_of l),
      mul-add (length l) (x * x) (squares_of l),
    )
