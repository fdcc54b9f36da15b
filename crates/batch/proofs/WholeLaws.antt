-- From an answer to the returned value and the lent slice, one law for each way out; and from the answer to the samples to
-- the answer to the batch.
use mathlib.Core.Path.{◌≡◌, refl, sym, ap, ◌∙◌}
use mathlib.Core.List.{List, [], ◌∷◌, map}
use Prim.Native.Nat.{ℕ, ◌-◌, ◌≤◌, ◌<◌}
use lib.ListN.{length, take, drop}
use lib.Seq.{length-take-le}
use Rattle.refusal.specs.Outcome.{outcome_of, Outcome}
use Rattle.refusal.specs.Outcome.Outcome.{given, refused}
use Rattle.refusal.specs.Numbers.{number_of}
use native.Mathlib.Omega.{arith}
use Rattle.refusal.specs.declared.Refusal.{Refusal}
use Rattle.refusal.specs.declared.Refusal.TheVariants as refusal
use Rattle.std.specs.Prelude.{Result, Ok, Err}
use Rattle.refusal.proofs.LentLaws.{Answers, refused-before, too_short, written as written-whole}
use Rattle.refusal.proofs.PlaceLaws.{placed-front}
use Rattle.words.specs.FromFront.{taken}
use Rattle.words.specs.Placing.{placed_within}
use Rattle.words.proofs.Laws.{placed-all}
use Rattle.words.proofs.SliceLaws.{rest_of, front_of}
use Rattle.words.proofs.ManyLaws.{then-refused}
use Rattle.chart_section.specs.declared.columns.ChartColumns.{ChartColumns}
use Rattle.chart_section.specs.ChartSection.{Chart, charts_of}
use Rattle.chart_section.specs.Columns.{columns_of, terms_of}
use Rattle.chart_section.proofs.Laws.{signal_told, Held, columns-held, columns-refused}
use Rattle.batch.specs.Batches.{Sample, batch_of}
use Rattle.batch.specs.Rows.{answered_by, rows_of, batch_answer}
use Rattle.batch.specs.Steps.{rows_by, samples_answer, MadeSaid}
use Rattle.batch.proofs.FlagLaws.{flag_same}
use Rattle.batch.proofs.ReadingLaws.{batch-told}

-- what is returned and what the lent slice then holds, where x was to be answered and the slice was old
abbrev Done : Outcome (List ℕ) → List ℕ → Result ℕ Refusal → List ℕ → Type 0
Done x old r new = Answers x old (outcome_of r) new

-- ---- how making x in a buffer ended

module _ (x : Outcome (List ℕ)) (buffer : List ℕ) (r : Result ℕ Refusal) (m : MadeSaid r x buffer) where
  pub made-refused : (old : List ℕ) (why : Refusal) → r ≡ Err why → Done x old (Err why) old
  made-refused old why e = refused-before x old (number_of why) (sym (rw e at m))

  module _ (size : ℕ) (e : r ≡ Ok size) where
    said : (x ≡ given (take size buffer)) × (size ≤ length buffer)
    said = rw e at m

    pub made-fits : size ≤ length buffer
    made-fits = said.1

    whole : length (take size buffer) ≡ size
    whole = length-take-le size buffer made-fits

    pub made-over : (old : List ℕ) → length old < size → Done x old (Err refusal.OutputLength) old
    made-over old l = too_short x old (take size buffer) said.0 (rw whole l)

    pub made-placed : (old new : List ℕ) → size ≤ length old → new ≡ placed_within old 0 (take (size - 0) (drop 0 buffer)) → Done x old (Ok size) new
    made-placed old new l p =
        written-whole x old (take size buffer) said.0 (rw whole l) (sym whole)
        (p ∙ ap (placed_within old 0) (front_of buffer size) ∙ placed-all old 0 (take size buffer) (omega (arith, whole, l)) ∙ placed-front old (take size buffer))

-- ---- the batch

rows_same : (cs : List Chart) (ss : List Sample) → rows_by (map signal_told cs) ss ≡ rows_of cs ss
unfolding rows_by rows_of
rows_same cs [] = refl
rows_same cs (a ∷ ss) = rw (flag_same cs a.words, rows_same cs ss)

charts-refused : (s : List ℕ) (n : ℕ) → charts_of s ≡ refused n → batch_answer s ≡ refused n
unfolding batch_answer batch_of
charts-refused s n e = ap answered_by (then-refused _ e)

charts-taken : (s rest : List ℕ) (cs : List Chart) → charts_of s ≡ taken cs rest → samples_answer (map signal_told cs) rest ≡ batch_answer s
unfolding batch_answer
charts-taken s rest cs e =
    batch-told answered_by (λ ss. length ss ∷ rows_by (map signal_told cs) ss) cs (λ n. refl)
    (λ ss. ap (λ (t : List ℕ). given (length ss ∷ t)) (sym (rows_same cs ss))) s rest e

-- how reading the charts ended: the batch is refused, or its samples are judged. The columns and the words are those that the
-- code lends
module _ (s : List ℕ) (columns : ChartColumns) (m : terms_of columns ≡ columns_of s) where
  pub read-refused : (old : List ℕ) (why : Refusal) → columns.ended ≡ Err why → Done (batch_answer s) old (Err why) old
  read-refused old why e = refused-before (batch_answer s) old (number_of why) (sym (charts-refused s (number_of why) (columns-refused s columns m e)))

  module _ (size : ℕ) (e : columns.ended ≡ Ok size) where
    held : Held s columns size
    held = columns-held s columns m e

    pub read-size : size ≤ length s
    read-size = held.inside

    abbrev lent : Outcome (List ℕ)
    lent = samples_answer (take columns.count columns.charts) (take (length s - size) (drop size s))

    same : lent ≡ batch_answer s
    same = rw (rest_of s size, held.told) (charts-taken s (drop size s) held.charts held.read)

    pub read-judged : (old : List ℕ) (r : Result ℕ Refusal) (new : List ℕ) → Done lent old r new → Done (batch_answer s) old r new
    read-judged old r new d = rw same at d
