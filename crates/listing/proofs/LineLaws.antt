-- Lines from the front: the next field of a line, the next row of many, what a text begins with; and a row's fields by its words.
use mathlib.Core.Path.{◌≡◌, refl, sym, ap, ◌∙◌}
use mathlib.Core.List.{List, [], ◌∷◌, ◌++◌, append-nil}
use Prim.Native.Nat.{ℕ, zero, suc, ◌+◌, ◌-◌, ◌*◌, ◌/◌, ◌≤◌, ◌<◌}
use native.Mathlib.Nat.{mul-zero, mul-suc}
use native.Mathlib.Numerals.{add-one}
use native.Mathlib.Omega.{arith}
use lib.ListN.{length, get_or, take, drop, length-drop, drop_of_length-le}
use lib.Seq.{drop-cons, drop-drop, append_snoc}
use Rattle.std.specs.Simd.{first_chunks}
use Rattle.record.specs.Number.{whole_number}
use Rattle.batch.specs.Rows.{row_words, row_at, row_fields}
use Rattle.listing.specs.Decimal.{decimal}
use Rattle.listing.specs.Listing.{ending, line, row_line, row_lines, listing_text, refused_word, refused_text}
use Rattle.listing.proofs.PartLaws.{rest_of, rest-is, Begins}

-- the next field of a line, with what ends it, and the rest of the line
pub line-next : (fields : List ℕ) (i : ℕ) → i < length fields
    → Begins (line (drop i fields)) (decimal (get_or fields i 0) ++ (ending (length fields - 1 - i) ∷ [])) (line (drop (i + 1) fields))
unfolding line
line-next fields i h =
    let after : length (drop (suc i) fields) ≡ length fields - 1 - i = omega (arith, length-drop (suc i) fields) in
    record {
      with = rw (add-one i, drop-cons fields i 0 h, after) (sym (append_snoc (decimal (get_or fields i 0)) (ending (length fields - 1 - i)) (line (drop (suc i) fields))));
    }

pub line_ends : (fields : List ℕ) (i : ℕ) → length fields ≤ i → line (drop i fields) ≡ []
unfolding line
line_ends fields i h = rw (drop_of_length-le fields {i = i} h)

-- a text that is one line, by its one field as the code has it
pub line_alone : {m n : ℕ} → m ≡ n → Begins (line (n ∷ [])) (line (m ∷ [])) []
line_alone {m} {n} e = record { with = rw e (sym (append-nil (line (n ∷ [])))) }

-- the text of a refusal: the word, then the line of the number
pub refused-first : (n : ℕ) → Begins (refused_text n) refused_word (line (n ∷ []))
unfolding refused_text
refused-first n = record { with = refl }

-- the fields of a row, by its words
pub row-fields : (row : List ℕ) → length row ≡ row_words
    → row_fields row
    ≡ whole_number (get_or row 0 0) (get_or row 1 0) ∷ get_or row 2 0 ∷ get_or row 3 0 ∷ get_or row 4 0 ∷ get_or row 5 0 ∷ get_or row 6 0 ∷ []
unfolding row_fields
row-fields row e =
    rw (
      drop-cons row 2 0 (omega (arith, e)),
      drop-cons row 3 0 (omega (arith, e)),
      drop-cons row 4 0 (omega (arith, e)),
      drop-cons row 5 0 (omega (arith, e)),
      drop-cons row 6 0 (omega (arith, e)),
      drop_of_length-le row {i = 7} (omega (arith, e)),
    )
    refl

-- a row and those after it
rows_next : (words : List ℕ) (from left : ℕ) → 0 < left
    → row_lines left (drop from words) ≡ row_line (row_at words from) ++ row_lines (left - 1) (drop (from + row_words) words)
unfolding row_lines
rows_next words from zero h = absurd (omega arith)
rows_next words from (suc left) h =
    let fewer : suc left - 1 ≡ left = omega arith in
    rw (fewer, drop-drop row_words from words)

-- one of the first chunks of a list
chunk-at : (n k i : ℕ) (words : List ℕ) → i < k → get_or (first_chunks n k words) i [] ≡ take n (drop (n * i) words)
chunk-at n zero i words h = absurd (omega arith)
chunk-at n (suc k) zero words h = rw (mul-zero n)
chunk-at n (suc k) (suc i) words h =
    let place : n + n * i ≡ n * suc i = omega (arith, mul-suc n i) in
    chunk-at n k i (drop n words) (omega (arith, h)) ∙ ap (take n) (drop-drop (n * i) n words ∙ ap (λ (p : ℕ). drop p words) place)

-- of the words of an answer: the line of the count comes first, then that of each row
module _ (answer : List ℕ) where
  abbrev count : ℕ
  count = get_or answer 0 0

  -- the lines of the rows after the first i
  abbrev pub lines_after : ℕ → List ℕ
  lines_after i = row_lines (count - i) (drop (1 + row_words * i) answer)

  pub count-first : {n : ℕ} → n ≡ count → Begins (listing_text answer) (line (n ∷ [])) (lines_after 0)
  unfolding listing_text
  count-first e =
      let all : count - 0 ≡ count = omega arith in
      record { with = rw e (ap (λ (n : ℕ). line (count ∷ []) ++ row_lines n (drop 1 answer)) (sym all)) }

  -- how many rows there are, as the code counts them
  module _ (size : length answer ≡ 1 + row_words * count) where
    pub rows-count : length (rest_of answer 1) / row_words ≡ count
    rows-count = rw (rest-is answer 1) (omega (arith, size, length-drop 1 answer))

    -- the next, as the code has it
    pub row-next : (i : ℕ) {rows : List (List ℕ)} {fields : List ℕ} → rows ≡ first_chunks row_words (length (rest_of answer 1) / row_words) (rest_of answer 1)
        → fields ≡ row_fields (get_or rows i []) → i < count → Begins (lines_after i) (line fields) (lines_after (i + 1))
    unfolding row_line
    row-next i e is h =
        let from : ℕ = 1 + row_words * i in
        let some : i < length (rest_of answer 1) / row_words = omega (arith, h, rows-count) in
        let row : get_or (first_chunks row_words (length (rest_of answer 1) / row_words) (rest_of answer 1)) i [] ≡ row_at answer from =
        chunk-at row_words (length (rest_of answer 1) / row_words) i (rest_of answer 1) some
        ∙ ap (λ (w : List ℕ). take row_words (drop (row_words * i) w)) (rest-is answer 1)
        ∙ ap (take row_words) (drop-drop (row_words * i) 1 answer)
        in
        let fewer : count - i - 1 ≡ count - (i + 1) = omega arith in
        let place : from + row_words ≡ 1 + row_words * (i + 1) = omega arith in
        record { with = rw (is, e, row, ← fewer, ← place) (rows_next answer from (count - i) (omega (arith, h))) }

  pub rows_end : (i : ℕ) → count ≤ i → lines_after i ≡ []
  unfolding row_lines
  rows_end i h = let none : count - i ≡ 0 = omega (arith, h) in rw none
