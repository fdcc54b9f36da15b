-- The floor of a power of ten is what document 02 says, two bounds name it, and it falls as the exponent grows.
use mathlib.Core.Path.{◌≡◌}
use Prim.Native.Nat.{ℕ, zero, ◌+◌, ◌-◌, ◌*◌, ◌≤◌, ◌<◌, zero-le}
use native.Mathlib.Nat.{le_trans, lt_of_le_of_lt, pow-le-pow_right, one-le-pow}
use native.Mathlib.Decide.{dec_le}
use native.Mathlib.Omega.{arith}
use lib.Dec.{leb, lit≤, lit<}
use borrow.Author.Tests.{le-leb, leb-true}
use Rattle.activity.specs.Search.{IsGreatest}
use Rattle.activity.specs.Exponent.{thousand}
use Rattle.activity.specs.Floors.{places, thousandth_power, power, floor_at}
use Rattle.activity.specs.Brackets.{unit}
use Rattle.activity.proofs.Searches.{greatest-passes, greatest-most}
use Rattle.activity.proofs.Powers.{lt_back, le-own-power}

module _ (n : ℕ) where
  pub floor-of-power : IsGreatest (λ x. thousandth_power x ≤ power n) (floor_at n)
  unfolding floor_at
  floor-of-power =
      record {
        one = leb-true _ _ (greatest-passes (λ x. leb (thousandth_power x) (power n)) (power n) (le-leb (thousandth_power zero) (power n) zero-le));
        most = λ x l. greatest-most (λ y. leb (thousandth_power y) (power n)) (power n) x (le_trans (le-own-power x) l) (le-leb _ _ l);
      }

  -- the next number's thousandth power is above that
  pub floor-next : power n < thousandth_power (floor_at n + 1)
  floor-next = go (dec_le (thousandth_power (floor_at n + 1)) (power n))
    where
      go : Dec (thousandth_power (floor_at n + 1) ≤ power n) → power n < thousandth_power (floor_at n + 1)
      go (yes l) = let over : floor_at n + 1 ≤ floor_at n = floor-of-power.most (floor_at n + 1) l in absurd (omega (arith, over))
      go (no f) = omega (arith, f)

  -- the two bounds name the floor
  pub floor-is : (h : ℕ) → thousandth_power h ≤ power n → power n < thousandth_power (h + 1) → floor_at n ≡ h
  floor-is h low high =
      let below : floor_at n < h + 1 = lt_back (lt_of_le_of_lt floor-of-power.one high) in
      let most : h ≤ floor_at n = floor-of-power.most h low in
      omega (arith, below, most)

  -- none is 0
  pub floor-positive : n ≤ places * thousand → 0 < floor_at n
  unfolding power
  floor-positive l = floor-of-power.most 1 (one-le-pow (places * thousand - n) 10 (omega arith))

power-falls : {n m : ℕ} → n ≤ m → power m ≤ power n
unfolding power
power-falls {n} {m} l = let fewer : places * thousand - m ≤ places * thousand - n = omega arith in pow-le-pow_right {n = 10} (omega arith) fewer

pub floor-falls : {n m : ℕ} → n ≤ m → floor_at m ≤ floor_at n
floor-falls {n} {m} l = (floor-of-power n).most (floor_at m) (le_trans (floor-of-power m).one (power-falls l))

-- none is above 10^9, that of exponent 0
floor-first : floor_at 0 ≡ unit
unfolding power
floor-first = floor-is 0 unit (lit≤ tt) (lit< tt)

pub floor-most : (n : ℕ) → floor_at n ≤ unit
floor-most n = rw floor-first at (floor-falls {n = 0} {m = n} zero-le)
