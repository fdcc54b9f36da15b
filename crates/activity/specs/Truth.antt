-- Document 02 (v): what is true of the bracket. y is the activity of a monovalent ion by the Davies equation (source 001, chapter 4, whose
-- crawled formula lost the minus sign): y² = 10^−e at a root s, compared with whole numbers by their powers.
-- In a fraction a / b, b is above 0. A strength is a fraction w / q here, as hydrogen is between h and h + 1.
use Rattle.std.specs.Prelude.{ℕ, ◌+◌, ◌-◌, ◌*◌, ◌^◌, ◌≤◌, ◌<◌}
use Rattle.activity.specs.Search.{IsGreatest, IsLeast}
use Rattle.activity.specs.Strength.{strongest, square, lower_root, upper_root}
use Rattle.activity.specs.Exponent.{bottom, gain, loss, top, million, NotAbove, NotBelow, lower_exponent, upper_exponent}
use Rattle.activity.specs.Floors.{places, thousandth_power, power, floor_at}
use Rattle.activity.specs.Brackets.{unit, lower_end, upper_end}

-- the searches of the definitions find the numbers that document 02 names
pub record Named (least greatest : ℕ) : Type 0 where
  pub lower-s : IsGreatest (λ k. square k ≤ least) (lower_root least)
  pub upper-s : IsLeast (λ k. greatest ≤ square k) (upper_root greatest)
  pub lower-e : IsGreatest (NotAbove (lower_root least)) (lower_exponent (lower_root least))
  pub upper-e : IsLeast (NotBelow (upper_root greatest)) (upper_exponent (upper_root greatest))
  pub floor : (n : ℕ) → IsGreatest (λ x. thousandth_power x ≤ power n) (floor_at n)

-- s is at most a half: I is at most 0.25 mol/L, and no record's is above 0.08
abbrev pub UpToHalf : ℕ → ℕ → Type 0
UpToHalf a b = 2 * a ≤ b

-- e 'grows with s over every record'
pub record Growing : Type 0 where
  -- it is not below 0
  pub over_zero : (a b : ℕ) → UpToHalf a b → loss a b ≤ gain a b
  -- from a / b to c / d: it does not fall where that is not below, and grows where that is above
  pub not-falling : (a b c d : ℕ) → UpToHalf a b → UpToHalf c d → a * d ≤ c * b → top a b * bottom c d ≤ top c d * bottom a b
  pub grows : (a b c d : ℕ) → 0 < b → 0 < d → UpToHalf a b → UpToHalf c d → a * d < c * b → top a b * bottom c d < top c d * bottom a b

-- at s = a / b, 10^9 y² is 10^(9 − top / bottom): to the power of bottom, 10^(9 bottom − top). It is at least x, or at most x
abbrev pub ActivityAtLeast : (a b x : ℕ) → Type 0
ActivityAtLeast a b x = x ^ bottom a b ≤ 10 ^ (places * bottom a b - top a b)

abbrev pub ActivityAtMost : (a b x : ℕ) → Type 0
ActivityAtMost a b x = 10 ^ (places * bottom a b - top a b) ≤ x ^ bottom a b

-- the square of a / b, which is 10^6 a / b multiples of 10^−6, is at most the strength w / q, or at least that
abbrev pub SquareAtMost : (a b w q : ℕ) → Type 0
SquareAtMost a b w q = square (million * a) * q ≤ w * (b * b)

abbrev pub SquareAtLeast : (a b w q : ℕ) → Type 0
SquareAtLeast a b w q = w * (b * b) ≤ square (million * a) * q

-- 10^9 y² at the root of w / q, which need not be a fraction. It falls as s grows: it is at least x where it is so at every fraction not above
-- the root, and at most x where it is so at every fraction not below it, among fractions up to a half
abbrev pub TrueAtLeast : (w q x : ℕ) → Type 0
TrueAtLeast w q x = (a b : ℕ) → 0 < b → SquareAtMost a b w q → ActivityAtLeast a b x

abbrev pub TrueAtMost : (w q x : ℕ) → Type 0
TrueAtMost w q x = (a b : ℕ) → 0 < b → UpToHalf a b → SquareAtLeast a b w q → ActivityAtMost a b x

-- 'then 10^9 y² lies between' the two ends, 'both included'
pub record Holds (least greatest : ℕ) : Type 0 where
  -- at the root of every strength from the least to the greatest
  pub at-root : (w q : ℕ) → 0 < q → least * q ≤ w → w ≤ greatest * q
      → TrueAtLeast w q (lower_end greatest) × TrueAtMost w q (upper_end least)
  -- and at every fraction whose square is one of these
  pub at-fraction : (a b : ℕ) → 0 < b → SquareAtLeast a b least 1 → SquareAtMost a b greatest 1
      → ActivityAtLeast a b (lower_end greatest) × ActivityAtMost a b (upper_end least)

-- what a check by the ends of the bracket needs: they are above 0, in order, and hardly above 10^9
pub record Usable (least greatest : ℕ) : Type 0 where
  pub positive : 0 < lower_end greatest
  pub ordered : lower_end greatest ≤ upper_end least
  pub lower-room : lower_end greatest ≤ unit + 1
  pub upper-room : upper_end least ≤ unit + 1

-- the bracket of the second pair of strengths is inside that of the first
pub record Inside (least greatest least' greatest' : ℕ) : Type 0 where
  pub over : lower_end greatest ≤ lower_end greatest'
  pub under : upper_end least' ≤ upper_end least

-- a narrower range of strengths gives a bracket inside the wider one's
abbrev pub Narrows : ℕ → ℕ → Type 0
Narrows least greatest =
    (least' greatest' : ℕ) → least ≤ least' → least' ≤ greatest' → greatest' ≤ greatest → Inside least greatest least' greatest'

-- what is true of the bracket, where one is given
pub record Bracketed (least greatest : ℕ) : Type 0 where
  pub named : Named least greatest
  pub growing : Growing
  pub holds : least ≤ strongest → greatest ≤ strongest → Holds least greatest
  pub usable : least ≤ greatest → greatest ≤ strongest → Usable least greatest
  pub narrows : greatest ≤ strongest → Narrows least greatest
