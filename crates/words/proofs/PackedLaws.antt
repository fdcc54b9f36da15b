-- The words that bytes hold: how many there are, and which bytes each is made of. And the bytes that hold words: how many, which
-- each is, and that the words are read from them again.
use mathlib.Core.Path.{◌≡◌, refl, ◌∙◌}
use mathlib.Core.List.{List, [], ◌∷◌}
use Prim.Native.Nat.{ℕ, zero, suc, ◌+◌, ◌*◌, ◌/◌, ◌%◌, ◌^◌, ◌<◌, ◌≤◌}
use native.Mathlib.Omega.{arith}
use native.Mathlib.Nat.{le_refl}
use lib.ListN.{length, get_or}
use Rattle.words.specs.Words.{words_of, word_bytes, bytes_of, BytesHoldWords}
use Rattle.words.specs.Each.{Every}
use Rattle.std.proofs.lemmas.Nat.{from_le_bytes-to_le_bytes_4}
use Rattle.std.specs.Int.{w32, from_le_bytes, to_le_bytes}
use Rattle.std.specs.Simd.{first_chunks}

pub length-words : (b : List ℕ) → length (words_of b) ≡ length b / word_bytes
unfolding words_of
length-words [] = refl
length-words (x ∷ []) = refl
length-words (x ∷ y ∷ []) = refl
length-words (x ∷ y ∷ z ∷ []) = refl
length-words (x ∷ y ∷ z ∷ w ∷ b) = omega (arith, length-words b)

word_from : (b : List ℕ) (count i : ℕ) → i < count → count ≤ length b / word_bytes
    → from_le_bytes w32 (get_or (first_chunks word_bytes count b) i []) ≡ get_or (words_of b) i 0
unfolding words_of
word_from b zero i h k = absurd (omega arith)
word_from [] (suc count) i h k = absurd (omega arith)
word_from (x ∷ []) (suc count) i h k = absurd (omega arith)
word_from (x ∷ y ∷ []) (suc count) i h k = absurd (omega arith)
word_from (x ∷ y ∷ z ∷ []) (suc count) i h k = absurd (omega arith)
word_from (x ∷ y ∷ z ∷ w ∷ b) (suc count) zero h k = omega arith
word_from (x ∷ y ∷ z ∷ w ∷ b) (suc count) (suc i) h k = word_from b count i (omega arith) (omega arith)

-- the words are what std reads of the bytes, four at a time
pub word-at : (b : List ℕ) (i : ℕ) {fours : List (List ℕ)} → fours ≡ first_chunks word_bytes (length b / word_bytes) b → i < length b / word_bytes
    → from_le_bytes w32 (get_or fours i []) ≡ get_or (words_of b) i 0
word-at b i e h = rw e (word_from b (length b / word_bytes) i h (le_refl _))

pub length-bytes : (w : List ℕ) → length (bytes_of w) ≡ word_bytes * length w
unfolding bytes_of
length-bytes [] = refl
length-bytes (x ∷ w) = omega (arith, length-bytes w)

-- the byte at a place, as the code has it
abbrev byte_at : List ℕ → ℕ → ℕ
byte_at words i = get_or (to_le_bytes w32 (get_or words (i / word_bytes) 0)) (i % word_bytes) 0

-- behind the four bytes of a word come those of the next
further : (x : ℕ) (w : List ℕ) (i : ℕ) → byte_at (x ∷ w) (suc (suc (suc (suc i)))) ≡ byte_at w i
further x w i =
    let place : suc (suc (suc (suc i))) / word_bytes ≡ suc (i / word_bytes) = omega arith in
    let left : suc (suc (suc (suc i))) % word_bytes ≡ i % word_bytes = omega arith in
    rw (place, left)

byte_from : (w : List ℕ) (i : ℕ) → i < length (bytes_of w) → byte_at w i ≡ get_or (bytes_of w) i 0
unfolding bytes_of
byte_from [] i h = absurd (omega arith)
byte_from (x ∷ w) zero h = refl
byte_from (x ∷ w) (suc zero) h = refl
byte_from (x ∷ w) (suc (suc zero)) h = refl
byte_from (x ∷ w) (suc (suc (suc zero))) h = refl
byte_from (x ∷ w) (suc (suc (suc (suc i)))) h = further x w i ∙ byte_from w i (omega arith)

-- the bytes are those that std makes of the word at that place
pub byte-at : (w : List ℕ) (i : ℕ) {four : List ℕ} → four ≡ to_le_bytes w32 (get_or w (i / word_bytes) 0) → i < length (bytes_of w)
    → get_or four (i % word_bytes) 0 ≡ get_or (bytes_of w) i 0
byte-at w i e h = rw e (byte_from w i h)

-- a word is what its bytes make
together : (x : ℕ) → x < 2 ^ 32 → x % 256 + 256 * (x / 256 % 256) + 65_536 * (x / 65_536 % 256) + 16_777_216 * (x / 16_777_216 % 256) ≡ x
together x h = omega (arith, from_le_bytes-to_le_bytes_4 x h)

pub words_back : BytesHoldWords
unfolding words_of bytes_of
words_back [] small = refl
words_back (x ∷ w) small = rw (together x (small 0), words_back w (λ i. small (suc i)))

-- words that bytes hold have 32 bits
abbrev pub Byte : ℕ → Type 0
Byte x = x < 256

abbrev pub Word : ℕ → Type 0
Word x = x < 2 ^ 32

pub words_small : (b : List ℕ) → Every Byte b → Every Word (words_of b)
unfolding words_of
words_small (x ∷ y ∷ z ∷ w ∷ b) p = (omega (arith, p.0, p.1.0, p.1.1.0, p.1.1.1.0), words_small b p.1.1.1.1)
words_small [] p = tt
words_small (x ∷ []) p = tt
words_small (x ∷ y ∷ []) p = tt
words_small (x ∷ y ∷ z ∷ []) p = tt
