-- The lower and the upper exponent are what document 02 says, division names each, and both grow with s.
use mathlib.Core.Path.{◌≡◌}
use mathlib.Core.Bool.{Bool}
use Prim.Native.Nat.{ℕ, ◌+◌, ◌-◌, ◌*◌, ◌/◌, ◌≤◌, ◌<◌}
use native.Mathlib.Nat.{le_trans, lt_of_le_of_lt, mul-le-mul_left, mul-le-mul_right, le_of_mul-le-mul_right, div-mul-le_self, le-div_iff_mul-le, lt_of_mul-lt-mul_right}
use native.Mathlib.Omega.{arith}
use lib.Dec.{leb}
use Rattle.std.specs.Int.{div_ceil}
use Rattle.std.proofs.lemmas.Grind.{div_ceil_times}
use borrow.Author.Tests.{le-leb, leb-true}
use Rattle.activity.specs.Search.{IsGreatest, IsLeast}
use Rattle.activity.specs.Exponent.{bottom, top, million, thousand, NotAbove, NotBelow, lower_exponent, upper_exponent}
use Rattle.activity.specs.Steps.{greatest_root, table_length}
use Rattle.activity.proofs.Searches.{greatest-passes, greatest-most, least-passes, least-least}
use Rattle.activity.proofs.Grows.{not-falling, top-most, bottom-positive}

-- n thousandths against two fractions in order: t / b is at most u / d
pub not-above-more : (n t b u d : ℕ) → 0 < b → t * d ≤ u * b → n * b ≤ thousand * t → n * d ≤ thousand * u
not-above-more n t b u d z l h = le_of_mul-le-mul_right {k = b} (omega (arith, l, mul-le-mul_right d h)) z

pub not-below-less : (n t b u d : ℕ) → 0 < d → t * d ≤ u * b → thousand * u ≤ n * d → thousand * t ≤ n * b
not-below-less n t b u d z l h = le_of_mul-le-mul_right {k = d} (omega (arith, l, mul-le-mul_right b h)) z

-- a thousandth of e's divisor, by which the code divides
abbrev pub thousandth_of : ℕ → ℕ
thousandth_of k = 10 * million * million / thousand * (k + million)

-- the tests of the two searches
abbrev not_above : ℕ → ℕ → Bool
not_above k n = leb (n * bottom k million) (thousand * top k million)

abbrev not_below : ℕ → ℕ → Bool
not_below k n = leb (thousand * top k million) (n * bottom k million)

module _ (k : ℕ) where
  divides : 0 < bottom k million
  divides = bottom-positive k million (omega arith)

  pub lower-exponent : IsGreatest (NotAbove k) (lower_exponent k)
  unfolding lower_exponent
  lower-exponent =
      record {
        one = leb-true _ _ (greatest-passes (not_above k) thousand (le-leb (0 * bottom k million) (thousand * top k million) (omega arith)));
        most = λ x l. greatest-most (not_above k) thousand x (small x l) (le-leb _ _ l);
      }
    where
      small : (x : ℕ) → NotAbove k x → x ≤ thousand
      small x l = le_of_mul-le-mul_right {k = bottom k million} (le_trans l (mul-le-mul_left thousand (top-most k million))) divides

  pub upper-exponent : IsLeast (NotBelow k) (upper_exponent k)
  unfolding upper_exponent
  upper-exponent =
      record {
        one = leb-true _ _ (least-passes (not_below k) thousand (le-leb _ _ (mul-le-mul_left thousand (top-most k million))));
        least = λ x l. least-least (not_below k) thousand x (le-leb _ _ l);
      }

  bottom-is : bottom k million ≡ thousand * thousandth_of k
  unfolding bottom
  bottom-is = omega arith

  pub lower-exponent-is : (t : ℕ) → t ≡ top k million → t / thousandth_of k ≡ lower_exponent k
  lower-exponent-is t e = rw e (divided (thousandth_of k) (omega arith) bottom-is)
    where
      divided : (b : ℕ) → 0 < b → bottom k million ≡ thousand * b → top k million / b ≡ lower_exponent k
      divided b z d =
          let l : top k million / b ≤ lower_exponent k =
          lower-exponent.most (top k million / b) (rw d (omega (arith, div-mul-le_self (top k million) b))) in
          let h : lower_exponent k * b ≤ top k million = omega (arith, rw d at lower-exponent.one) in
          let m : lower_exponent k ≤ top k million / b = (le-div_iff_mul-le {k = b} {x = lower_exponent k} {y = top k million} z).1 h in
          omega arith

  pub upper-exponent-is : (t : ℕ) → t ≡ top k million → div_ceil t (thousandth_of k) ≡ upper_exponent k
  upper-exponent-is t e = rw e (divided (thousandth_of k) (omega arith) bottom-is)
    where
      divided : (b : ℕ) → 0 < b → bottom k million ≡ thousand * b → div_ceil (top k million) b ≡ upper_exponent k
      divided b z d =
          let bounds = div_ceil_times (top k million) b z in
          let l : upper_exponent k ≤ div_ceil (top k million) b =
          upper-exponent.least (div_ceil (top k million) b) (rw d (omega (arith, bounds.0))) in
          let h : top k million ≤ upper_exponent k * b = omega (arith, rw d at upper-exponent.one) in
          let m : div_ceil (top k million) b < upper_exponent k + 1 = lt_of_mul-lt-mul_right b (omega (arith, h, bounds.1)) in
          omega (arith, l, m)

module _ (k m : ℕ) (le : k ≤ m) (small : m ≤ greatest_root) where
  more : top k million * bottom m million ≤ top m million * bottom k million
  more = not-falling k million m million (omega arith) (omega arith) (omega arith)

  pub lower-exponent-grows : lower_exponent k ≤ lower_exponent m
  lower-exponent-grows =
      (lower-exponent m).most (lower_exponent k)
      (not-above-more (lower_exponent k) (top k million) (bottom k million) (top m million) (bottom m million) (divides k) more
      (lower-exponent k).one)

  pub upper-exponent-grows : upper_exponent k ≤ upper_exponent m
  upper-exponent-grows =
      (upper-exponent k).least (upper_exponent m)
      (not-below-less (upper_exponent m) (top k million) (bottom k million) (top m million) (bottom m million) (divides m) more
      (upper-exponent m).one)

pub exponents-ordered : (k : ℕ) → lower_exponent k ≤ upper_exponent k
exponents-ordered k =
    le_of_mul-le-mul_right {k = bottom k million} (le_trans (lower-exponent k).one (upper-exponent k).one) (divides k)

-- the exponent of the greatest root is in the table
last : NotBelow greatest_root (table_length - 1)
unfolding top bottom
last = omega arith

-- so every exponent is
pub upper-exponent-small : (k : ℕ) → k ≤ greatest_root → upper_exponent k < table_length
upper-exponent-small k l =
    let most : upper_exponent k ≤ table_length - 1 =
    le_trans (upper-exponent-grows k greatest_root l (omega arith)) ((upper-exponent greatest_root).least (table_length - 1) last) in
    omega arith

pub lower-exponent-small : (k : ℕ) → k ≤ greatest_root → lower_exponent k < table_length
lower-exponent-small k l = lt_of_le_of_lt (exponents-ordered k) (upper-exponent-small k l)
