-- Document 02 (iii), 'Runs of one day joined': what every answer keeps to, a field for each clause.
use Rattle.std.specs.Prelude.{◌≡◌, cond, List, [], ◌∷◌, ◌++◌, ℕ, zero, suc, ◌+◌, ◌*◌, ◌<◌, ◌≤◌, length, get_or, take, drop}
use Rattle.refusal.specs.Outcome.Outcome.{given}
use Rattle.chart.specs.Values.{most_later}
use Rattle.chart_section.specs.ChartSection.{Chart}
use Rattle.batch.specs.Batches.{Sample, Batch, batch_of}
use Rattle.batch.specs.Rows.{number_width, verdict_width, words_in, row_words, flagged, answer_of, batch_answer}
use Rattle.batch.specs.Layout.{layout, ValidBatch}
use Rattle.joining.specs.Charts.{key_of}
use Rattle.joining.specs.Joins.{joined, joined_of}

-- ---- a row of an answer

-- 'number, four verdicts in the order above': the words of a row that joining keeps
abbrev pub kept_words : ℕ
kept_words = words_in (number_width ∷ verdict_width ∷ verdict_width ∷ verdict_width ∷ verdict_width ∷ [])

-- those of row i
abbrev pub kept_in : ℕ → List ℕ → List ℕ
kept_in i answer = take kept_words (drop (1 + row_words * i) answer)

-- its chart flag, which comes next
abbrev pub flag_in : ℕ → List ℕ → ℕ
flag_in i answer = get_or answer (1 + row_words * i + kept_words) 0

-- the record of sample i
unfoldable pub record_at : List Sample → ℕ → List ℕ
record_at [] i = []
record_at (a ∷ l) zero = a.words
record_at (a ∷ l) (suc i) = record_at l i

-- ---- two batches a and b, and the words of the answer

pub record JoinedAs (a b : Batch) (words : List ℕ) : Type 0 where
  -- 'The answer is the joined batch in the file's layout'
  pub laid : words ≡ layout (joined a b)
  -- 'and it is valid': a batch that document 01 allows, and what is read from the words
  pub valid : ValidBatch (joined a b)
  pub read : batch_of words ≡ given (joined a b)
  -- 'a chart in both must have the same setup values in the same order', and 'joined counts' are within '01's ranges': of any two
  -- charts with one key, wherever they stand
  pub setups : (c d : Chart) (before after earlier further : List Chart) → a.charts ≡ before ++ c ∷ after → b.charts ≡ earlier ++ d ∷ further → key_of c ≡ key_of d
      → (c.setup ≡ d.setup) × (length (c.later ++ d.later) ≤ most_later)
  -- 'each sample keeps its verdicts': the answer to the joined batch has the first's rows and then the second's, but for the flags
  pub answered : batch_answer words ≡ given (answer_of (joined a b))
  pub rows : get_or (answer_of (joined a b)) 0 0 ≡ length a.samples + length b.samples
  pub kept_first : (i : ℕ) → i < length a.samples → kept_in i (answer_of (joined a b)) ≡ kept_in i (answer_of a)
  pub kept_of_second : (i : ℕ) → i < length b.samples → kept_in (length a.samples + i) (answer_of (joined a b)) ≡ kept_in i (answer_of b)
  -- 'and its chart flag is the one for the joined charts'
  pub flags : (i : ℕ) → i < length (a.samples ++ b.samples)
      → flag_in i (answer_of (joined a b)) ≡ cond (flagged (joined a b).charts (record_at (a.samples ++ b.samples) i)) 1 0

-- what was answered to two runs of words
pub record Joined (first second words : List ℕ) : Type 0 where
  pub a : Batch
  pub b : Batch
  pub read_first : batch_of first ≡ given a
  pub read_second : batch_of second ≡ given b
  -- what is answered to each of them alone
  pub answered_first : batch_answer first ≡ given (answer_of a)
  pub answered_second : batch_answer second ≡ given (answer_of b)
  pub says : JoinedAs a b words

abbrev pub JoinsTwo : Type 0
JoinsTwo = (first second words : List ℕ) → joined_of first second ≡ given words → Joined first second words
