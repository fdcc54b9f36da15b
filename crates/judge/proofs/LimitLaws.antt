-- The limits of the checks: none is above that of the lowest conductivity, and none is the whole of what it is percent of.
use mathlib.Core.Bool.{Bool, true, false, cond}
use Prim.Native.Nat.{ℕ, ◌≤◌, ◌<◌}
use native.Mathlib.Nat.{le_trans, lt_of_le_of_lt}
use lib.Dec.{leb, lit≤, lit<}
use Rattle.judge.specs.Classes.{low_conductivity, medium_conductivity, percent, percent_of_mean}
use Rattle.judge.specs.IonBalance.{balance_limit}
use Rattle.judge.specs.Conductivity.{conductivity_limit}

-- one of two that are at most n
either-most : (b : Bool) {x y n : ℕ} → x ≤ n → y ≤ n → cond b x y ≤ n
either-most true h k = h
either-most false h k = k

module _ (measured : ℕ) where
  pub balance-most : balance_limit measured ≤ balance_limit 0
  unfolding balance_limit
  balance-most = either-most (leb measured medium_conductivity) (lit≤ tt) (lit≤ tt)

  pub balance-limit : balance_limit measured < percent_of_mean
  unfolding balance_limit
  balance-limit = lt_of_le_of_lt balance-most (lit< tt)

  pub conductivity-most : conductivity_limit measured ≤ conductivity_limit 0
  unfolding conductivity_limit
  conductivity-most = either-most (leb measured low_conductivity) (lit≤ tt) (either-most (leb measured medium_conductivity) (lit≤ tt) (lit≤ tt))

  pub conductivity-limit : conductivity_limit measured ≤ percent
  unfolding conductivity_limit
  conductivity-limit = le_trans conductivity-most (lit≤ tt)
