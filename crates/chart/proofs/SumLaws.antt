-- The sums of a loop through the values: with those of the values from place i on they make the whole sums; and how great these are
-- for values that are accepted.
use mathlib.Core.Path.{◌≡◌, ap}
use mathlib.Core.Bool.{true}
use mathlib.Core.List.{List, [], ◌∷◌}
use Prim.Native.Nat.{ℕ, ◌+◌, ◌*◌, ◌≤◌, ◌<◌}
use native.Mathlib.Nat.{mul-le-mul}
use native.Mathlib.Numerals.{add-one}
use native.Mathlib.Omega.{arith}
use lib.ListN.{length, get_or, drop, drop_of_length-le}
use lib.Seq.{drop-cons}
use Rattle.chart.specs.Values.{all_values, greatest_value}
use Rattle.chart.specs.Setups.{square, sum_of, squares_of}
use Rattle.chart.proofs.ValueLaws.{values-each}

-- the invariant: s and q after i turns
pub record Summed (a : List ℕ) (i s q : ℕ) : Type 0 where
  pub sum : s + sum_of (drop i a) ≡ sum_of a
  pub squares : q + squares_of (drop i a) ≡ squares_of a

pub none : (a : List ℕ) → Summed a 0 0 0
none a = record { sum = omega arith; squares = omega arith }

module _ {a : List ℕ} {i s q : ℕ} (sums : Summed a i s q) where
  pub one_more : {v : ℕ} → i < length a → v ≡ get_or a i 0 → Summed a (i + 1) (s + v) (q + v * v)
  unfolding sum_of squares_of
  one_more h e =
      let from : drop i a ≡ get_or a i 0 ∷ drop (i + 1) a = rw (add-one, drop-cons a i 0 h) in
      record {
        sum = omega (arith, sums.sum, e, ap sum_of from);
        squares = omega (arith, sums.squares, ap square e, ap squares_of from);
      }

  pub whole : length a ≤ i → (s ≡ sum_of a) × (q ≡ squares_of a)
  unfolding sum_of squares_of
  whole h =
      let rest = drop_of_length-le a h in
      (omega (arith, sums.sum, ap sum_of rest), omega (arith, sums.squares, ap squares_of rest))

pub sum-most : (l : List ℕ) → all_values l ≡ true → sum_of l ≤ length l * greatest_value
unfolding sum_of
sum-most [] e = omega arith
sum-most (v ∷ l) e = let p = values-each v l e in omega (arith, p.0, sum-most l p.1)

pub squares-most : (l : List ℕ) → all_values l ≡ true → squares_of l ≤ length l * square greatest_value
unfolding squares_of
squares-most [] e = omega arith
squares-most (v ∷ l) e = let p = values-each v l e in omega (arith, mul-le-mul p.0 p.0, squares-most l p.1)
