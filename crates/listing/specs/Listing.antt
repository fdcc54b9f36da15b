-- Document 01, 'A batch', with the number as document 02 (ii) prints it: the text that the listing program prints of a batch.
use Rattle.std.specs.Prelude.{cond, List, [], ◌∷◌, ◌++◌, ℕ, zero, suc, ◌+◌, ◌*◌, ◌≤◌, eqb, length, get_or, take, drop}
use Rattle.refusal.specs.declared.Refusal.TheVariants as refusal
use Rattle.refusal.specs.Numbers.{number_of}
use Rattle.refusal.specs.Outcome.{Outcome, demand}
use Rattle.refusal.specs.Outcome.Outcome.{given, refused}
use Rattle.batch.specs.Batches.{most_samples}
use Rattle.batch.specs.Rows.{Width, row_widths, row_words, batch_answer, row_fields}
use Rattle.words.specs.Words.{words_of}
use Rattle.batch.specs.Input.{is_input}
use Rattle.listing.specs.Decimal.{decimal}

-- ASCII codes
abbrev pub space : ℕ
space = 32

abbrev pub newline : ℕ
newline = 10

-- `refused ` in ASCII
abbrev pub refused_word : List ℕ
refused_word = 114 ∷ 101 ∷ 102 ∷ 117 ∷ 115 ∷ 101 ∷ 100 ∷ space ∷ []

-- 'fields parted by a space', the line ended by a newline: the byte after a field, by how many fields come after it
unfoldable pub ending : ℕ → ℕ
ending after = cond (eqb after 0) newline space

-- a line of fields, each a number in base ten (no fields, no line)
unfoldable pub line : List ℕ → List ℕ
line [] = []
line (field ∷ rest) = decimal field ++ (ending (length rest) ∷ line rest)

-- 'a row a line', its fields by `row_fields`: 'the whole number as one field'
unfoldable pub row_line : List ℕ → List ℕ
row_line row = line (row_fields row)

-- so many rows, one after the other
unfoldable pub row_lines : ℕ → List ℕ → List ℕ
row_lines zero words = []
row_lines (suc n) words = row_line (take row_words words) ++ row_lines n (drop row_words words)

-- 'prints these, count on the first line, a row a line': the text of a batch's answer
unfoldable pub listing_text : List ℕ → List ℕ
listing_text words = line (get_or words 0 0 ∷ []) ++ row_lines (get_or words 0 0) (drop 1 words)

-- 'or `refused N`', a line too
unfoldable pub refused_text : ℕ → List ℕ
refused_text n = refused_word ++ line (n ∷ [])

unfoldable pub text_of : Outcome (List ℕ) → List ℕ
text_of (given words) = listing_text words
text_of (refused n) = refused_text n

-- what the listing program prints of the bytes that it reads
unfoldable pub list_text : List ℕ → List ℕ
list_text bytes = text_of (demand (is_input bytes) (number_of refusal.BatchLength) (batch_answer (words_of bytes)))

-- 'count on the first line': at most 400
abbrev pub count_width : Width
count_width = record { words = 1; digits = 3 }

-- the longest line of fields: the most digits of each, and the byte after it
abbrev pub longest_line : List Width → ℕ
longest_line [] = 0
longest_line (field ∷ rest) = (field.digits + 1) + longest_line rest

-- the longest text: the line of the count, and 400 rows
abbrev pub most_text : ℕ
most_text = longest_line (count_width ∷ []) + most_samples * longest_line row_widths

-- no text is longer
abbrev pub TextFits : Type 0
TextFits = (bytes : List ℕ) → length (list_text bytes) ≤ most_text
