-- Document 01, 'A batch': what its words say, a batch as a value; or the first refusal, in the order that document 01 gives:
-- 'A batch is read from the front, each part whole (else 8) before its tests: a section's count 9; .. a record 2 to 7; leftovers
-- 8'. What stands between is of the charts (`chart_section`).
use Rattle.std.specs.Prelude.{List, ℕ, eqb, length, take, drop}
use Rattle.refusal.specs.Outcome.{Outcome, demand}
use Rattle.refusal.specs.Outcome.Outcome.{given, refused}
use Rattle.refusal.specs.Numbers.{number_of}
use Rattle.refusal.specs.declared.Refusal.TheVariants as refusal
use Rattle.record.specs.Record.{record_words}
use Rattle.judge.specs.Judgements.{Four, judgement_of}
use Rattle.words.specs.FromFront.{Read, taken, then, whole, section}
use Rattle.chart_section.specs.ChartSection.{Chart, charts_of}

-- a sample: its record, and the verdicts on it
pub record Sample : Type 0 where
  pub words : List ℕ
  pub verdicts : Four

pub record Batch : Type 0 where
  pub charts : List Chart
  pub samples : List Sample

-- 'then samples (0 to 400 records)'
abbrev pub most_samples : ℕ
most_samples = 400

-- ---- a sample: a record, 'a record 2 to 7'

abbrev pub sample_by : List ℕ → List ℕ → Outcome Four → Read Sample
sample_by w rest (given v) = taken (record { words = w; verdicts = v }) rest
sample_by w rest (refused n) = refused n

unfoldable pub sample_of : List ℕ → Read Sample
sample_of s = whole record_words s (sample_by (take record_words s) (drop record_words s) (judgement_of (take record_words s)))

abbrev pub samples_of : List ℕ → Read (List Sample)
samples_of s = section most_samples (λ before. sample_of) s

-- ---- a batch: the charts, the samples, and no word left over

-- 'leftovers 8'
abbrev pub nothing_is_left : {A : Type 0} → List ℕ → Outcome A → Outcome A
nothing_is_left s rest = demand (eqb (length s) 0) (number_of refusal.BatchLength) rest

unfoldable pub batch_of : List ℕ → Outcome Batch
batch_of s =
    then (charts_of s)
    (λ cs s₁. then (samples_of s₁)
    (λ ss s₂. nothing_is_left s₂ (given (record { charts = cs; samples = ss }))))

-- a batch's own tests alone: nothing is told but that they accept it, or the number of the first that refuses it
abbrev pub tested_by : Outcome Batch → Outcome (Unit {0})
tested_by (given b) = given tt
tested_by (refused n) = refused n

unfoldable pub test_of : List ℕ → Outcome (Unit {0})
test_of s = tested_by (batch_of s)
