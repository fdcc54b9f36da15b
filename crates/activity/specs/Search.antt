-- The greatest and the least whole number of a kind. Document 02 (v) names five numbers so: both roots, both exponents and the floor.
use Rattle.std.specs.Prelude.{Bool, cond, ℕ, zero, suc, ◌≤◌}

-- the greatest number up to n that passes a test; 0 where none does
unfoldable pub greatest_such : (ℕ → Bool) → ℕ → ℕ
greatest_such test zero = zero
greatest_such test (suc n) = cond (test (suc n)) (suc n) (greatest_such test n)

-- the least number that passes a test; n where none below n does
unfoldable pub least_such : (ℕ → Bool) → ℕ → ℕ
least_such test zero = zero
least_such test (suc n) = cond (test zero) zero (suc (least_such (λ k. test (suc k)) n))

-- h is the greatest of all whole numbers of a kind
pub record IsGreatest (is : ℕ → Type 0) (h : ℕ) : Type 0 where
  pub one : is h
  pub most : (x : ℕ) → is x → x ≤ h

-- h is the least of them
pub record IsLeast (is : ℕ → Type 0) (h : ℕ) : Type 0 where
  pub one : is h
  pub least : (x : ℕ) → is x → h ≤ x
