-- Document 02 (ii), 'Barcodes on bottles': a sample's number, the two words that hold it, and that each pair of words is one
-- number.
use Rattle.std.specs.Prelude.{◌≡◌, ℕ, ◌+◌, ◌*◌, ◌/◌, ◌%◌, ◌<◌}

-- how many values a word of 32 bits has: '2^32'
abbrev pub word_values : ℕ
word_values = 4_294_967_296

-- 'number = high × 2^32 + low'
abbrev pub whole_number : ℕ → ℕ → ℕ
whole_number high low = high * word_values + low

-- its 'high part' and its 'low part': the words that make it, as the laws below say
abbrev pub high_part : ℕ → ℕ
high_part number = number / word_values

abbrev pub low_part : ℕ → ℕ
low_part number = number % word_values

pub record NumberLaws : Type 0 where
  -- a number is what its parts make
  pub together : (number : ℕ) → whole_number (high_part number) (low_part number) ≡ number
  -- and two words are the parts of what they make, so that no other two words make it
  pub apart : (high low : ℕ) → low < word_values → (high_part (whole_number high low) ≡ high) × (low_part (whole_number high low) ≡ low)
  -- what two words make is less than 2^64: nothing wraps
  pub fits : (high low : ℕ) → high < word_values → low < word_values → whole_number high low < word_values * word_values
