-- A number in base ten, as text in ASCII, without zeros in front.
use Rattle.std.specs.Prelude.{cond, List, [], ◌∷◌, ◌++◌, ◌≡◌, ℕ, zero, suc, ◌+◌, ◌-◌, ◌*◌, ◌/◌, ◌%◌, ◌^◌, ◌≤◌, ◌<◌, ltb, length, get_or}

-- the ASCII code of `0`; those of `1` to `9` follow it
abbrev pub code_of_zero : ℕ
code_of_zero = 48

abbrev pub digit : ℕ → ℕ
digit d = code_of_zero + d

-- a number of at most so many digits: below ten it is its one digit, else a tenth of it comes first and the rest of ten is the last
-- digit
unfoldable pub decimal_from : ℕ → ℕ → List ℕ
decimal_from zero n = []
decimal_from (suc places) n = cond (ltb n 10) (digit n ∷ []) (decimal_from places (n / 10) ++ (digit (n % 10) ∷ []))

-- a number of 64 bits has twenty digits at most
abbrev pub most_digits : ℕ
most_digits = 20

unfoldable pub decimal : ℕ → List ℕ
decimal n = decimal_from most_digits n

-- a text read as a number in base ten, digit by digit from the front, after what was read before it
unfoldable pub read_from : ℕ → List ℕ → ℕ
read_from before [] = before
read_from before (code ∷ text) = read_from (10 * before + (code - code_of_zero)) text

-- what the text of n has to be: it says n, in digits alone, without a zero in front of others
pub record Spelled (n : ℕ) (text : List ℕ) : Type 0 where
  pub reads : read_from 0 text ≡ n
  pub digits : (k : ℕ) → k < length text → (code_of_zero ≤ get_or text k 0) × (get_or text k 0 ≤ code_of_zero + 9)
  pub some : 0 < length text
  pub front : 1 < length text → code_of_zero < get_or text 0 0

-- so it is of every number of at most so many digits, and with that of every number of 64 bits
abbrev pub DecimalTruth : Type 0
DecimalTruth = (n : ℕ) → n < 10 ^ most_digits → Spelled n (decimal n)
