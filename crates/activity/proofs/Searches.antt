-- The two searches find what they are named for.
use mathlib.Core.Path.{◌≡◌, refl}
use mathlib.Core.Bool.{Bool, true, false, cond}
use Prim.Native.Nat.{ℕ, zero, suc, ◌≤◌, zero-le}
use native.Mathlib.Decide.{dec_le}
use native.Mathlib.Omega.{arith}
use Rattle.activity.specs.Search.{greatest_such, least_such}

-- of a number that is tested and what is found without it, the one taken passes
taken-passes : (f : ℕ → Bool) (n r : ℕ) (b : Bool) → f n ≡ b → f r ≡ true → f (cond b n r) ≡ true
taken-passes f n r true e h = e
taken-passes f n r false e h = h

-- the greatest passes, where 0 does
pub greatest-passes : (f : ℕ → Bool) (n : ℕ) → f zero ≡ true → f (greatest_such f n) ≡ true
unfolding greatest_such
greatest-passes f zero z = z
greatest-passes f (suc n) z = taken-passes f (suc n) (greatest_such f n) (f (suc n)) refl (greatest-passes f n z)

-- and no number up to n that passes is greater
most_step : (f : ℕ → Bool) (n r x : ℕ) (b : Bool) → f (suc n) ≡ b → x ≤ suc n → f x ≡ true → (x ≤ n → x ≤ r)
    → x ≤ cond b (suc n) r
most_step f n r x true d l e h = l
most_step f n r x false d l e h = go (dec_le x n)
  where
    go : Dec (x ≤ n) → x ≤ r
    go (yes m) = h m
    go (no m) = let is : x ≡ suc n = omega (arith, m) in cc

pub greatest-most : (f : ℕ → Bool) (n x : ℕ) → x ≤ n → f x ≡ true → x ≤ greatest_such f n
unfolding greatest_such
greatest-most f zero x l e = l
greatest-most f (suc n) x l e = most_step f n (greatest_such f n) x (f (suc n)) refl l e (λ m. greatest-most f n x m e)

-- the least passes, where n does
pub least-passes : (f : ℕ → Bool) (n : ℕ) → f n ≡ true → f (least_such f n) ≡ true
unfolding least_such
least-passes f zero e = e
least-passes f (suc n) e = taken-passes f zero (suc (least_such (λ k. f (suc k)) n)) (f zero) refl (least-passes (λ k. f (suc k)) n e)

-- and no number that passes is less
least_step : (f : ℕ → Bool) (r x : ℕ) (b : Bool) → f zero ≡ b → f x ≡ true → ((y : ℕ) → f (suc y) ≡ true → r ≤ y)
    → cond b zero (suc r) ≤ x
least_step f r x true d e h = zero-le
least_step f r zero false d e h = cc
least_step f r (suc x) false d e h = let l : r ≤ x = h x e in omega arith

pub least-least : (f : ℕ → Bool) (n x : ℕ) → f x ≡ true → least_such f n ≤ x
unfolding least_such
least-least f zero x e = zero-le
least-least f (suc n) x e = least_step f (least_such (λ k. f (suc k)) n) x (f zero) refl e (λ y d. least-least (λ k. f (suc k)) n y d)
