-- Document 01, 'Charts': what the setup values come to, and where a value lies against them. Whole numbers, nothing divided.
use Rattle.std.specs.Prelude.{Bool, List, [], ◌∷◌, ℕ, ◌+◌, ◌-◌, ◌*◌, ◌≤◌, ltb, length}
use Rattle.refusal.specs.Differences.{apart}

abbrev pub square : ℕ → ℕ
square x = x * x

unfoldable pub sum_of : List ℕ → ℕ
sum_of [] = 0
sum_of (v ∷ values) = v + sum_of values

unfoldable pub squares_of : List ℕ → ℕ
squares_of [] = 0
squares_of (v ∷ values) = square v + squares_of values

-- 'n setup values, sum S and sum of squares Q'
pub record SetupTerms : Type 0 where
  pub n : ℕ
  pub S : ℕ
  pub Q : ℕ

abbrev pub setup_of : List ℕ → SetupTerms
setup_of values = record { n = length values; S = sum_of values; Q = squares_of values }

-- n×Q − S² is never negative, whatever the values: so the difference of whole numbers below is the document's
abbrev pub NeverNegative : Type 0
NeverNegative = (values : List ℕ) → square (setup_of values).S ≤ (setup_of values).n * (setup_of values).Q

-- 'a value v is beyond k deviations when (n×v − S)² × (n − 1) is greater than k² × n × (n×Q − S²)'.
-- (The square of a difference is that of it with its sign dropped)
unfoldable pub beyond : SetupTerms → ℕ → ℕ → Bool
beyond f k v = ltb (square k * f.n * (f.n * f.Q - square f.S)) (square (apart (f.n * v) f.S) * (f.n - 1))

-- 'The mean is S/n; a value's side is above or below it.' v against S/n is n×v against S; a value on the mean has no side
pub data Side : Type 0 where
  Above : Side
  Below : Side

abbrev pub on_side : SetupTerms → Side → ℕ → Bool
on_side f Above v = ltb f.S (f.n * v)
on_side f Below v = ltb (f.n * v) f.S
