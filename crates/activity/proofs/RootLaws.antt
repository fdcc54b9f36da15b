-- The lower and the upper root are what document 02 says, two bounds name each, and both grow with the strength.
use mathlib.Core.Path.{◌≡◌}
use Prim.Native.Nat.{ℕ, ◌+◌, ◌*◌, ◌/◌, ◌≤◌, ◌<◌}
use native.Mathlib.Nat.{le_trans, lt_of_le_of_lt, lt_of_lt_of_le}
use native.Mathlib.Decide.{dec_le}
use native.Mathlib.Omega.{arith}
use lib.Dec.{leb}
use borrow.Author.Tests.{le-leb, leb-true}
use Rattle.activity.specs.Search.{IsGreatest, IsLeast}
use Rattle.activity.specs.Strength.{square, strongest, lower_root, upper_root}
use Rattle.activity.specs.Steps.{greatest_root}
use Rattle.activity.proofs.Searches.{greatest-passes, greatest-most, least-passes, least-least}
use Rattle.activity.proofs.Powers.{square_le, square-back, le-own-square}

-- of a strength w
module _ (w : ℕ) where
  pub lower-root : IsGreatest (λ k. square k ≤ w) (lower_root w)
  unfolding lower_root
  lower-root =
      record {
        one = leb-true _ _ (greatest-passes (λ k. leb (square k) w) w (le-leb (square 0) w (omega arith)));
        most = λ x l. greatest-most (λ k. leb (square k) w) w x (omega (arith, l, le-own-square x)) (le-leb _ _ l);
      }

  pub upper-root : IsLeast (λ k. w ≤ square k) (upper_root w)
  unfolding upper_root
  upper-root =
      record {
        one = leb-true _ _ (least-passes (λ k. leb w (square k)) w (le-leb w (square w) (omega (arith, le-own-square w))));
        least = λ x l. least-least (λ k. leb w (square k)) w x (le-leb _ _ l);
      }

-- a number with a smaller square is smaller
squares-back : {a b : ℕ} → square a ≤ square b → a ≤ b
squares-back {a} {b} h = square-back a b (omega arith)

squares-below : {a b : ℕ} → square a < square b → a < b
squares-below {a} {b} h = go (dec_le b a)
  where
    go : Dec (b ≤ a) → a < b
    go (yes l) = absurd (omega (arith, h, square_le l))
    go (no f) = omega (arith, f)

module _ (w k : ℕ) where
  pub lower-root-is : square k ≤ w → w < square (k + 1) → k ≡ lower_root w
  lower-root-is low high =
      let below : lower_root w < k + 1 = squares-below (lt_of_le_of_lt (lower-root w).one high) in
      let most : k ≤ lower_root w = (lower-root w).most k low in
      omega arith

  -- as the code finds it: the whole root of a 2,000th of the strength, rounded down
  pub lower-root-from : k * k ≤ w / square 1 → w / square 1 < (k + 1) * (k + 1) → k ≡ lower_root w
  lower-root-from low high = lower-root-is (omega arith) (omega arith)

  pub upper-root-is : square k < w → w ≤ square (k + 1) → k + 1 ≡ upper_root w
  upper-root-is low high =
      let above : k < upper_root w = squares-below (lt_of_lt_of_le low (upper-root w).one) in
      let least : upper_root w ≤ k + 1 = (upper-root w).least (k + 1) high in
      omega arith

  -- the upper root is the lower one where its square is enough, else the next
  pub upper-root-same : k ≡ lower_root w → w ≤ square k → k ≡ upper_root w
  upper-root-same e h =
      let least : upper_root w ≤ k = (upper-root w).least k h in
      let over : lower_root w ≤ upper_root w = squares-back (le_trans (lower-root w).one (upper-root w).one) in
      omega arith

  pub upper-root-next : k ≡ lower_root w → square k < w → k + 1 ≡ upper_root w
  upper-root-next e low = upper-root-is low (enough (dec_le (square (k + 1)) w))
    where
      enough : Dec (square (k + 1) ≤ w) → w ≤ square (k + 1)
      enough (yes l) = absurd (omega (arith, (lower-root w).most (k + 1) l))
      enough (no f) = omega (arith, f)

pub roots-ordered : (w : ℕ) → lower_root w ≤ upper_root w
roots-ordered w = squares-back (le_trans (lower-root w).one (upper-root w).one)

-- no root is above the greatest
pub upper-root-small : (w : ℕ) → w ≤ strongest → upper_root w ≤ greatest_root
upper-root-small w l = (upper-root w).least greatest_root (omega arith)

pub lower-root-small : (w : ℕ) → w ≤ strongest → lower_root w ≤ greatest_root
lower-root-small w l = squares-back (le_trans (lower-root w).one (omega arith))

-- both grow with the strength
pub lower-root-grows : {v w : ℕ} → v ≤ w → lower_root v ≤ lower_root w
lower-root-grows {v} {w} l = (lower-root w).most (lower_root v) (le_trans (lower-root v).one l)

pub upper-root-grows : {v w : ℕ} → v ≤ w → upper_root v ≤ upper_root w
upper-root-grows {v} {w} l = (upper-root v).least (upper_root w) (le_trans l (upper-root w).one)
