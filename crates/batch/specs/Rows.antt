-- Document 01, 'A batch': 'The output is the sample count, then six words a sample: number, four verdicts in the order above, and 1
-- if some chart whose element isn't missing in the sample has a nonzero signal at its last later value, else 0.'
-- Document 02 (ii): 'Output rows have seven words, high and low first. The program prints the whole number as one field.'
use Rattle.std.specs.Prelude.{◌≡◌, Bool, false, ◌&&◌, ◌||◌, not, cond, List, [], ◌∷◌, ◌++◌, ℕ, ◌+◌, ◌*◌, ◌^◌, ◌≤◌, ◌<◌, eqb, length, get_or, take, drop}
use Rattle.refusal.specs.Outcome.{Outcome}
use Rattle.refusal.specs.Outcome.Outcome.{given, refused}
use Rattle.record.specs.Number.{whole_number, high_part, low_part}
use Rattle.record.specs.Record.{sample_number, has_reading}
use Rattle.judge.specs.Judgements.{Four}
use Rattle.chart_section.specs.ChartSection.{Chart, signal_of}
use Rattle.batch.specs.Batches.{Sample, Batch, most_samples, batch_of}

-- ---- the fields of a row, and how wide each is

-- the words that a field takes in the answer, and the digits that it has at most where it is printed
pub record Width : Type 0 where
  pub words : ℕ
  pub digits : ℕ

-- 'high and low first', a number of 'up to 15 digits'
abbrev pub number_width : Width
number_width = record { words = 2; digits = 15 }

-- a verdict, 0 to 4
abbrev pub verdict_width : Width
verdict_width = record { words = 1; digits = 1 }

-- '1 if some chart .., else 0'
abbrev pub flag_width : Width
flag_width = record { words = 1; digits = 1 }

-- 'number, four verdicts in the order above, and 1 if some chart .., else 0'
abbrev pub row_widths : List Width
row_widths = number_width ∷ verdict_width ∷ verdict_width ∷ verdict_width ∷ verdict_width ∷ flag_width ∷ []

-- the words of such fields one after another
abbrev pub words_in : List Width → ℕ
words_in [] = 0
words_in (field ∷ rest) = field.words + words_in rest

-- 'rows have seven words'
abbrev pub row_words : ℕ
row_words = words_in row_widths

-- 'the sample count, then' a row a sample: the words of the longest answer
abbrev pub most_answer : ℕ
most_answer = 1 + most_samples * row_words

-- ---- the row of a sample

unfoldable pub flagged : List Chart → List ℕ → Bool
flagged [] w = false
flagged (c ∷ cs) w = (not (eqb (signal_of c) 0) && has_reading w c.element) || flagged cs w

-- of a sample's number, verdicts and flag. The parts of the number are the record's own first two words, which have 32 bits each, by
-- `NumberLaws.apart`
abbrev pub row_with : ℕ → Four → Bool → List ℕ
row_with number v flag = high_part number ∷ low_part number ∷ v.balance ∷ v.conductivity ∷ v.ratio ∷ v.nitrogen ∷ cond flag 1 0 ∷ []

abbrev pub row_of : List Chart → Sample → List ℕ
row_of cs a = row_with (sample_number a.words) a.verdicts (flagged cs a.words)

unfoldable pub rows_of : List Chart → List Sample → List ℕ
rows_of cs [] = []
rows_of cs (a ∷ l) = row_of cs a ++ rows_of cs l

abbrev pub answer_of : Batch → List ℕ
answer_of b = length b.samples ∷ rows_of b.charts b.samples

-- what is answered to the words of a batch
abbrev pub answered_by : Outcome Batch → Outcome (List ℕ)
answered_by (given b) = given (answer_of b)
answered_by (refused n) = refused n

unfoldable pub batch_answer : List ℕ → Outcome (List ℕ)
batch_answer s = answered_by (batch_of s)

-- ---- what every answer keeps to: at most 400 rows, and each field of a row within its width

-- the row that begins at a word
abbrev pub row_at : List ℕ → ℕ → List ℕ
row_at w from = take row_words (drop from w)

-- the fields of a row as they are printed, by its words: 'the whole number as one field', the sample's by `NumberLaws.together`, then
-- each word is one
unfoldable pub row_fields : List ℕ → List ℕ
row_fields row = whole_number (get_or row 0 0) (get_or row 1 0) ∷ drop number_width.words row

-- as many fields as widths, and none has more digits than its width
abbrev pub FieldsFit : List Width → List ℕ → Type 0
FieldsFit [] [] = Unit {0}
FieldsFit [] (n ∷ fields) = ⊥
FieldsFit (width ∷ widths) [] = ⊥
FieldsFit (width ∷ widths) (n ∷ fields) = (n < 10 ^ width.digits) × FieldsFit widths fields

abbrev pub SmallRow : List ℕ → Type 0
SmallRow row = FieldsFit row_widths (row_fields row)

pub record Listed (w : List ℕ) : Type 0 where
  pub count : get_or w 0 0 ≤ most_samples
  pub size : length w ≡ 1 + row_words * get_or w 0 0
  pub rows : (i : ℕ) → i < get_or w 0 0 → SmallRow (row_at w (1 + row_words * i))
