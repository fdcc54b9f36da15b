-- What a call that reads words says came, and what it leaves in the slice that it was lent. No contract can know what the input holds:
-- so this says that there are bytes, those that were read, and that all else is made of them.
use Rattle.std.specs.Prelude.{◌≡◌, List, ℕ, ◌*◌, ◌≤◌, ◌<◌, min, length, get_or}
use Rattle.words.specs.Words.{words_of, word_bytes}
use Rattle.words.specs.Placing.{placed_within}
use Rattle.input.specs.declared.Got.{Got}

-- the most words that one call reads
abbrev pub most_words : ℕ
most_words = 1024

-- the most bytes that it reads: those of the words that were lent, or of so many
abbrev pub most_bytes : List ℕ → ℕ
most_bytes words = word_bytes * min (length words) most_words

-- the slice before the call and after it, and what it says came
pub record Came (old new : List ℕ) (got : Got) : Type 0 where
  -- the bytes that were read
  pub read : List ℕ
  pub are_bytes : (i : ℕ) → get_or read i 0 < 256
  pub few : length read ≤ most_bytes old
  -- what is said of them: how many they are, and how many whole words they make
  pub bytes : got.bytes ≡ length read
  pub words : got.words ≡ length (words_of read)
  -- these words stand in the first places; beyond them is the old content
  pub lent : new ≡ placed_within old 0 (words_of read)
