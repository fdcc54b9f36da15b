-- What this crate's own functions say of the definitions; a reader of the promises can pass over it. The charts are held by
-- what they tell, their elements and their last signals, and the answer is made in a buffer.
use Rattle.std.specs.Prelude.{◌≡◌, Bool, false, ◌&&◌, ◌||◌, not, List, [], ◌∷◌, ◌++◌, ℕ, ◌+◌, ◌≤◌, ◌<◌, eqb, length, take, drop}
use Rattle.refusal.specs.Outcome.{Outcome}
use Rattle.refusal.specs.Outcome.Outcome.{given, refused}
use Rattle.refusal.specs.Numbers.{number_of}
use Rattle.refusal.specs.declared.Refusal.{Refusal}
use Rattle.refusal.specs.declared.Refusal.TheVariants as refusal
use Rattle.std.specs.Prelude.{Result, Ok, Err}
use Rattle.record.specs.Record.{record_words, sample_number, has_reading}
use Rattle.record.specs.declared.TestedRecord.{TestedRecord}
use Rattle.record.specs.Tested.{fields_in, has_reading_in}
use Rattle.judge.specs.Judgements.{Four}
use Rattle.words.specs.FromFront.{then}
use Rattle.chart_section.specs.declared.columns.ChartSignal.{ChartSignal}
use Rattle.batch.specs.Batches.{Sample, samples_of, nothing_is_left}
use Rattle.batch.specs.Rows.{row_with}

-- `flagged` by what the charts tell, and by what tells of an element whether it is there: of a record's words, or of its fields
unfoldable pub flagged_by : List ChartSignal → (ℕ → Bool) → Bool
flagged_by [] has = false
flagged_by (c ∷ cs) has = (not (eqb c.signal 0) && has c.element) || flagged_by cs has

abbrev pub row_by : List ChartSignal → Sample → List ℕ
row_by cs a = row_with (sample_number a.words) a.verdicts (flagged_by cs (has_reading a.words))

-- the row of a judged record, by its fields
abbrev pub row_in : TestedRecord → Four → List ChartSignal → List ℕ
row_in own v cs = row_with own.number v (flagged_by cs (has_reading_in (fields_in own)))

unfoldable pub rows_by : List ChartSignal → List Sample → List ℕ
rows_by cs [] = []
rows_by cs (a ∷ l) = row_by cs a ++ rows_by cs l

-- where so many samples are to come and these words are left: the next record's words are there, and this is what is left after
-- them
abbrev pub TakenFrom : ℕ → List ℕ → List ℕ → ℕ → List ℕ → Type 0
TakenFrom left rest w left' rest' =
    (left ≡ left' + 1) × (record_words ≤ length rest) × (w ≡ take record_words rest) × (rest' ≡ drop record_words rest)

-- the next is not whole, or none is to come and words are left over
abbrev pub NoneFrom : ℕ → List ℕ → Refusal → Type 0
NoneFrom left rest why = (0 < left → length rest < record_words) × (left ≡ 0 → 0 < length rest) × (why ≡ refusal.BatchLength)

-- what is told of the samples' section and what is left after it, where f is told of the samples
unfoldable pub samples_then : {A : Type 0} → (List Sample → A) → List ℕ → Outcome A
samples_then f s = then (samples_of s) (λ ss rest. nothing_is_left rest (given (f ss)))

-- the answer; and nothing but that they are samples
abbrev pub samples_answer : List ChartSignal → List ℕ → Outcome (List ℕ)
samples_answer cs s = samples_then (λ ss. length ss ∷ rows_by cs ss) s

abbrev pub samples_test : List ℕ → Outcome (Unit {0})
samples_test s = samples_then (λ ss. tt) s

-- how making an answer x in a buffer ended: its first words are the answer
abbrev pub MadeSaid : Result ℕ Refusal → Outcome (List ℕ) → List ℕ → Type 0
MadeSaid (Ok size) x buffer = (x ≡ given (take size buffer)) × (size ≤ length buffer)
MadeSaid (Err why) x buffer = x ≡ refused (number_of why)
