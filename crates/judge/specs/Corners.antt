-- The verdict by the corners of the ranges: the form that the code follows. `proofs/` show that it is the verdict by every choice.
-- A check asks that the ratio of two sums, first / second, is in a window: from low to high. Hydrogen may take part in the first,
-- and the first may be corrected (`Choices`).
use Rattle.std.specs.Prelude.{Bool, true, false, cond, ◌||◌, ℕ, ◌+◌, ◌*◌, ◌≤◌, leb, ltb, eqb}
use Rattle.record.specs.Record.{readings}
use Rattle.solution.specs.Ions.{sum}
use Rattle.solution.specs.Solutions.{gap}
use Rattle.judge.specs.declared.ratio.Fraction.{Fraction}
use Rattle.judge.specs.declared.window.Window.{Window}
use Rattle.judge.specs.Choices.{Bracket, uncorrected, Ranges, Choice}

-- the fraction a / b
abbrev pub fraction : ℕ → ℕ → Fraction
fraction a b = record { numerator = a; denominator = b }

-- ---- a check
-- a sum: what is fixed, and the weight of each reading's amount
pub record Part : Type 0 where
  pub fixed : ℕ
  pub weight : ℕ → ℕ

-- of a choice, divisor times; of whole amounts
abbrev pub part_of : Part → Choice → ℕ
part_of p c = p.fixed * c.divisor + sum (λ i. p.weight i * c.amount i) readings

abbrev pub part_at : Part → (ℕ → ℕ) → ℕ
part_at p a = p.fixed + sum (λ i. p.weight i * a i) readings

-- the weight w for reading i, and for no other
abbrev pub only : ℕ → ℕ → ℕ → ℕ
only i w j = cond (eqb j i) w 0

pub record Check : Type 0 where
  -- what a u of hydrogen adds to the first sum, 0 where hydrogen plays no part
  pub hydrogen : ℕ
  -- whether the first sum is corrected
  pub corrected : Bool
  pub first : Part
  pub second : Part
  pub window : Window

-- ---- at a choice
-- the first sum with hydrogen, divisor times
abbrev pub first_of : Check → Choice → ℕ
first_of k c = k.hydrogen * c.hydrogen + part_of k.first c

-- what the first sum is multiplied by, as a fraction: the correction, or 1
abbrev pub factor : Bool → Choice → ℕ
factor true c = c.correction
factor false c = 1

abbrev pub factor_divisor : Bool → Choice → ℕ
factor_divisor true c = c.correction_divisor
factor_divisor false c = 1

-- the ratio is in the window
pub record Passes (k : Check) (c : Choice) : Type 0 where
  pub high : k.window.high.denominator * (factor k.corrected c * first_of k c) ≤ k.window.high.numerator * (factor_divisor k.corrected c * part_of k.second c)
  pub low : k.window.low.numerator * (factor_divisor k.corrected c * part_of k.second c) ≤ k.window.low.denominator * (factor k.corrected c * first_of k c)

-- ---- by the least and the greatest ratio
-- a / b is above c / d; where the ends of a ratio are not reached, at least that
abbrev pub above : Bool → ℕ → ℕ → ℕ → ℕ → Bool
above reached a b c d = cond reached (ltb (c * b) (d * a)) (leb (c * b) (d * a))

-- one side of the window fails: x / y is above it, or x' / y' below it
abbrev pub fails_one : Window → Bool → ℕ → ℕ → ℕ → ℕ → Bool
fails_one w reached x y x' y' =
    above reached x y w.high.numerator w.high.denominator || above reached w.low.numerator w.low.denominator x' y'

-- first sums from x₀ to x₁, second sums from y₀ to y₁: ratios from x₀ / y₁ to x₁ / y₀, these two reached or not.
-- 2 where even the best ratio fails one side of the window, 3 where the worst fails one, else 1
unfoldable pub decided : Window → Bool → ℕ → ℕ → ℕ → ℕ → ℕ
decided w reached x₀ x₁ y₀ y₁ = cond (fails_one w reached x₀ y₁ x₁ y₀) 2 (cond (fails_one w true x₁ y₀ x₀ y₁) 3 1)

-- ---- over ranges
-- the ends of the ratio are reached where hydrogen plays no part, or is its floor
abbrev pub ends_reached : Check → Ranges → Bool
ends_reached k r = eqb k.hydrogen 0 || r.whole

-- what the first sum is multiplied by
abbrev pub bracket_of : Bool → Ranges → Bracket
bracket_of true r = r.correction
bracket_of false r = uncorrected

abbrev pub least_first : Check → Ranges → ℕ
least_first k r = k.hydrogen * r.floor + part_at k.first r.least

abbrev pub most_first : Check → Ranges → ℕ
most_first k r = k.hydrogen * (r.floor + gap r.whole) + part_at k.first r.greatest

abbrev pub passes_of : Check → Ranges → ℕ
passes_of k r =
    decided k.window (ends_reached k r)
    ((bracket_of k.corrected r).least * least_first k r) ((bracket_of k.corrected r).most * most_first k r)
    ((bracket_of k.corrected r).unit * part_at k.second r.least) ((bracket_of k.corrected r).unit * part_at k.second r.greatest)
