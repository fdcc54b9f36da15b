-- Words packed in bytes, as document 01, 'A batch', has them: 'little-endian words'; and the bytes of words.
use Rattle.std.specs.Prelude.{List, [], ◌∷◌, ◌≡◌, ℕ, ◌+◌, ◌*◌, ◌/◌, ◌%◌, ◌^◌, ◌<◌, get_or}

-- the words of 32 bits that bytes hold: four bytes a word, the least first. Fewer than four are no word
unfoldable pub words_of : List ℕ → List ℕ
words_of (a ∷ b ∷ c ∷ d ∷ rest) = (a + 256 * b + 65_536 * c + 16_777_216 * d) ∷ words_of rest
words_of [] = []
words_of (a ∷ []) = []
words_of (a ∷ b ∷ []) = []
words_of (a ∷ b ∷ c ∷ []) = []

abbrev pub word_bytes : ℕ
word_bytes = 4

-- the bytes that hold words of 32 bits, in the same order
unfoldable pub bytes_of : List ℕ → List ℕ
bytes_of [] = []
bytes_of (word ∷ rest) = (word % 256) ∷ (word / 256 % 256) ∷ (word / 65_536 % 256) ∷ (word / 16_777_216 % 256) ∷ bytes_of rest

-- they do hold them
abbrev pub BytesHoldWords : Type 0
BytesHoldWords = (words : List ℕ) → ((i : ℕ) → get_or words i 0 < 2 ^ 32) → words_of (bytes_of words) ≡ words
