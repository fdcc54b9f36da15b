-- The floor at any p, from its definition: its hundredth power is small enough, no greater number's is, and the two bounds of its rule
-- name it; where H is a whole number, it is its own floor.
use mathlib.Core.Path.{◌≡◌, sym}
use mathlib.Core.Bool.{cond}
use Prim.Native.Nat.{ℕ, zero, suc, ◌+◌, ◌≤◌, ◌<◌, zero-le}
use native.Mathlib.Nat.{le_trans, le_of_eq, le_antisymm, lt_of_le_of_lt}
use native.Mathlib.Decide.{dec_le}
use native.Mathlib.Omega.{arith}
use lib.Dec.{leb}
use borrow.Author.Tests.{le-leb, lt-leb}
use Rattle.hydrogen.specs.Floors.{hundredth, root, power, floor_at}
use Rattle.hydrogen.proofs.Powers.{keeps-le, lt_back, le-own-power}

-- searched down from k: what is found is small enough
root-low : (n k : ℕ) → hundredth (root n k) ≤ n
unfolding root
root-low n zero = zero-le
root-low n (suc k) = go (dec_le (hundredth (suc k)) n) (root-low n k)
  where
    go : Dec (hundredth (suc k) ≤ n) → hundredth (root n k) ≤ n → hundredth (cond (leb (hundredth (suc k)) n) (suc k) (root n k)) ≤ n
    go (yes m) below = rw (le-leb (hundredth (suc k)) n m) m
    go (no f) below = rw (lt-leb (hundredth (suc k)) n (omega (arith, f))) below

-- and nothing greater up to k is
root-greatest : (n k x : ℕ) → hundredth x ≤ n → x ≤ k → x ≤ root n k
unfolding root
root-greatest n zero x low l = l
root-greatest n (suc k) x low l = go (dec_le (hundredth (suc k)) n) (root-greatest n k x low)
  where
    go : Dec (hundredth (suc k) ≤ n) → (x ≤ k → x ≤ root n k) → x ≤ cond (leb (hundredth (suc k)) n) (suc k) (root n k)
    go (yes m) below = rw (le-leb (hundredth (suc k)) n m) l
    go (no f) below =
        let over : n < hundredth (suc k) = omega (arith, f) in
        let less : x < suc k = lt_back (lt_of_le_of_lt low over) in
        rw (lt-leb (hundredth (suc k)) n over) (below (omega (arith, less)))

module _ (p : ℕ) where
  pub floor-low : hundredth (floor_at p) ≤ power p
  unfolding floor_at
  floor-low = root-low (power p) (power p)

  pub floor-greatest : (x : ℕ) → hundredth x ≤ power p → x ≤ floor_at p
  unfolding floor_at
  floor-greatest x low = root-greatest (power p) (power p) x low (le_trans (le-own-power x) low)

  pub floor-high : power p < hundredth (floor_at p + 1)
  floor-high = go (dec_le (hundredth (floor_at p + 1)) (power p))
    where
      go : Dec (hundredth (floor_at p + 1) ≤ power p) → power p < hundredth (floor_at p + 1)
      go (yes m) = let over : floor_at p + 1 ≤ floor_at p = floor-greatest (floor_at p + 1) m in absurd (omega (arith, over))
      go (no f) = omega (arith, f)

  pub floor-is : (h : ℕ) → hundredth h ≤ power p → power p < hundredth (h + 1) → floor_at p ≡ h
  floor-is h low high =
      let least : h ≤ floor_at p = floor-greatest h low in
      let most : floor_at p < h + 1 = lt_back (lt_of_le_of_lt floor-low high) in
      omega (arith, least, most)

  -- where H is a whole number, it is its own floor
  pub exact-by : (x : ℕ) → hundredth x ≡ power p → hundredth (floor_at p) ≡ power p
  exact-by x e = le_antisymm floor-low (le_trans (le_of_eq (sym e)) (keeps-le (floor-greatest x (le_of_eq e))))
