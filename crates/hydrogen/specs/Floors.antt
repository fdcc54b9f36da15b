-- Document 01, 'Hydrogen': the floor of true hydrogen, by hundredth powers of whole numbers.
use Rattle.std.specs.Prelude.{◌≡◌, Bool, true, cond, ◌||◌, ℕ, zero, suc, ◌-◌, ◌%◌, ◌^◌, leb, ltb, eqb}
use Rattle.refusal.specs.Outcome.{Outcome}
use Rattle.refusal.specs.Outcome.Outcome.{given, refused}
use Rattle.refusal.specs.Numbers.{number_of}
use Rattle.refusal.specs.declared.Refusal.TheVariants as refusal

-- 'pH in hundredths, called p, 200 to 1,000'
abbrev pub least_ph : ℕ
least_ph = 200

abbrev pub greatest_ph : ℕ
greatest_ph = 1000

-- 'p is a multiple of 100', as a test and as a fact
abbrev pub is_whole : ℕ → Bool
is_whole p = eqb (p % 100) 0

abbrev pub WholePh : ℕ → Type 0
WholePh p = is_whole p ≡ true

-- the 'hundredth power' of a whole number
abbrev pub hundredth : ℕ → ℕ
hundredth x = x ^ 100

-- the hundredth power of H: 'true hydrogen H is 10^((1500 − p)/100) u'
unfoldable pub power : ℕ → ℕ
power p = 10 ^ (1500 - p)

-- the greatest whole number up to k whose hundredth power is at most n
unfoldable pub root : ℕ → ℕ → ℕ
root n zero = zero
root n (suc k) = cond (leb (hundredth (suc k)) n) (suc k) (root n k)

-- 'its floor h is the greatest whole number whose hundredth power is at most 10^(1500−p)'.
-- No number is above its hundredth power, so none above 10^(1500−p) is left out. This definition is never computed
unfoldable pub floor_at : ℕ → ℕ
floor_at p = root (power p) (power p)

-- the floor at the least pH, which is the greatest of all: 10^((1500 − 200)/100) u
abbrev pub most_floor : ℕ
most_floor = 10 ^ 13

-- the floor at p; refusal 4, 'pH', where p is out of its range
unfoldable pub floor_of : ℕ → Outcome ℕ
floor_of p = cond (ltb p least_ph || ltb greatest_ph p) (refused (number_of refusal.Ph)) (given (floor_at p))
