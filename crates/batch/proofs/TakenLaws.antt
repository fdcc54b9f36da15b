-- What was read: a valid batch, and the words are those of its layout.
use mathlib.Core.Path.{◌≡◌, refl, sym, ap, ◌∙◌}
use mathlib.Core.List.{List, [], ◌∷◌, ◌++◌, append-nil}
use Prim.Native.Nat.{ℕ}
use native.Mathlib.Omega.{arith}
use lib.Dec.{leb, eqb}
use lib.ListN.{length, take, drop, take-append-drop}
use borrow.Author.Tests.{eqb-true}
use Rattle.refusal.specs.Outcome.{Outcome}
use Rattle.refusal.specs.Outcome.Outcome.{given, refused}
use Rattle.refusal.specs.Numbers.{number_of}
use Rattle.refusal.specs.declared.Refusal.TheVariants as refusal
use Rattle.refusal.proofs.Rows.{row-given}
use Rattle.refusal.proofs.Outcomes.{never}
use Rattle.record.specs.Record.{record_words}
use Rattle.judge.specs.Judgements.{Four, judgement_of}
use Rattle.words.specs.FromFront.{taken}
use Rattle.words.specs.Sections.{section_words}
use Rattle.words.proofs.EachLaws.{each-every}
use Rattle.words.proofs.TakenLaws.{then-given, taken-same, Stands, section-taken}
use Rattle.chart_section.specs.ChartSection.{charts_of, chart_words}
use Rattle.chart_section.proofs.StandLaws.{charts-valid, charts-stand}
use Rattle.batch.specs.Batches.{Sample, Batch, most_samples, sample_by, sample_of, samples_of, batch_of}
use Rattle.batch.specs.Layout.{sample_words, Judged, layout, ValidBatch}

-- ---- a sample

judged-taken : (w r : List ℕ) (j : Outcome Four) (a : Sample) (rest : List ℕ) → judgement_of w ≡ j → sample_by w r j ≡ taken a rest → Judged a × (w ++ r ≡ a.words ++ rest)
judged-taken w r (given v) a rest j e =
    let t = taken-same e in
    (rw (sym t.0) j, rw (sym t.0, sym t.1))
judged-taken w r (refused n) a rest j e = never e

sample-stands : Stands (λ before. Judged) sample_words (λ before. sample_of)
unfolding sample_of
sample-stands before s a rest h =
    let w = take record_words s in
    let p = row-given ((leb record_words (length s), number_of refusal.BatchLength) ∷ []) (sample_by w (drop record_words s) (judgement_of w)) (a, rest) h in
    let t = judged-taken w (drop record_words s) (judgement_of w) a rest refl p.1 in
    (t.0, sym (take-append-drop record_words s) ∙ t.1)

-- ---- a batch

empty : (l : List ℕ) → length l ≡ 0 → l ≡ []
empty [] h = refl
empty (x ∷ l) h = absurd (omega arith)

pub record BatchRead (s : List ℕ) (b : Batch) : Type 0 where
  pub valid : ValidBatch b
  pub words : s ≡ layout b

pub batch-read : (s : List ℕ) (b : Batch) → batch_of s ≡ given b → BatchRead s b
unfolding batch_of layout
batch-read s b h =
    let c = then-given (charts_of s) _ b h in
    let d = then-given (samples_of c.1) _ b c.3 in
    let left = d.1 in
    let here : Batch = record { charts = c.0; samples = d.0 } in
    let p = row-given ((eqb (length left) 0, number_of refusal.BatchLength) ∷ []) (given here) b d.3 in
    let same : here ≡ b = cc p.1 in
    let samples = section-taken (λ before. Judged) sample_words _ sample-stands most_samples c.1 d.0 left d.2 in
    rw (sym same)
    (record {
      valid = record { charts = charts-valid s c.0 c.1 c.2; few = samples.0; judged = each-every (λ before. Judged) Judged (λ before a j. j) [] d.0 samples.1 };
      words = charts-stand s c.0 c.1 c.2
          ∙ ap (λ (l : List ℕ). section_words chart_words c.0 ++ l)
          (samples.2 ∙ ap (λ (l : List ℕ). section_words sample_words d.0 ++ l) (empty left (eqb-true _ _ p.0.0)) ∙ append-nil _);
    })
