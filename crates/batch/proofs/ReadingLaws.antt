-- The samples of a batch, read one after another: one sample at the front of the words; and the walk over the samples, a turn of it
-- and each of its ends, whatever is told of the samples; and what is told of the batch.
use mathlib.Core.Path.{◌≡◌, refl, sym, ap, ◌∙◌}
use mathlib.Core.Bool.{Bool, true, false}
use mathlib.Core.List.{List, [], ◌∷◌, ◌++◌}
use Prim.Native.Nat.{ℕ, zero, suc, ◌≤◌, ◌<◌}
use native.Mathlib.Omega.{arith}
use lib.Dec.{eqb}
use lib.ListN.{length, take, drop}
use borrow.Author.Tests.{le-leb, lt-leb, eq-eqb, ne_eqb}
use Rattle.refusal.specs.Outcome.{Outcome, demand}
use Rattle.refusal.specs.Outcome.Outcome.{given, refused}
use Rattle.refusal.specs.Numbers.{number_of}
use Rattle.refusal.specs.declared.Refusal.{Refusal}
use Rattle.refusal.specs.declared.Refusal.TheVariants as refusal
use Rattle.record.specs.Record.{record_words}
use Rattle.judge.specs.Judgements.{Four, judgement_of}
use Rattle.words.specs.FromFront.{Read, taken, then, many}
use Rattle.words.proofs.ManyLaws.{then-taken, then-refused, section-begins}
use Rattle.chart_section.specs.ChartSection.{Chart, charts_of}
use Rattle.batch.specs.Batches.{Sample, Batch, most_samples, sample_of, samples_of, nothing_is_left, batch_of}
use Rattle.batch.specs.Steps.{TakenFrom, NoneFrom, samples_then}

-- ---- one sample

sample-short : (s : List ℕ) → length s < record_words → sample_of s ≡ refused (number_of refusal.BatchLength)
unfolding sample_of
sample-short s h = rw (lt-leb record_words (length s) h)

module _ (s : List ℕ) (h : record_words ≤ length s) where
  sample-refused : (n : ℕ) → judgement_of (take record_words s) ≡ refused n → sample_of s ≡ refused n
  unfolding sample_of
  sample-refused n e = rw (le-leb record_words (length s) h, e)

  sample-taken : (v : Four) → judgement_of (take record_words s) ≡ given v
      → sample_of s ≡ taken (record { words = take record_words s; verdicts = v }) (drop record_words s)
  unfolding sample_of
  sample-taken v e = rw (le-leb record_words (length s) h, e)

-- ---- the walk: those before have been read, n are to come, and this is what is left of the words

abbrev pub sample_after : List Sample → List ℕ → Read Sample
sample_after before = sample_of

-- what is left of the words decides the rest
abbrev pub Left : List ℕ → ℕ → List ℕ → List Sample → Type 0
Left words n rest before = samples_of words ≡ many sample_after n before rest

pub walk-begins : (words : List ℕ) (n : ℕ) (rest : List ℕ) → words ≡ n ∷ rest → n ≤ most_samples → Left words n rest []
walk-begins words n rest e l =
    rw e
    (section-begins sample_after most_samples (n ∷ rest) n (omega arith) refl l ∙ ap (λ (k : ℕ). many sample_after k [] rest) (omega arith))

pub section-refused : {A : Type 0} (f : List Sample → A) (words : List ℕ) {m : ℕ} → samples_of words ≡ refused m → samples_then f words ≡ refused m
unfolding samples_then
section-refused f words e = then-refused _ e

module _ (words : List ℕ) (n : ℕ) (rest : List ℕ) (before : List Sample) (left : Left words n rest before) where
  more : {k : ℕ} → n ≡ suc k → samples_of words ≡ many sample_after (suc k) before rest
  more e = left ∙ ap (λ (m : ℕ). many sample_after m before rest) e

  none : n ≡ 0 → samples_of words ≡ taken before rest
  unfolding many
  none e = left ∙ ap (λ (m : ℕ). many sample_after m before rest) e

  module _ {w rest' : List ℕ} (n' : ℕ) (t : TakenFrom n rest w n' rest') where
    next : n ≡ suc n'
    next = omega (arith, t.0)

    pub next-left : (v : Four) → judgement_of w ≡ given v → Left words n' rest' (before ++ record { words = w; verdicts = v } ∷ [])
    unfolding many
    next-left v e =
        let e' : judgement_of (take record_words rest) ≡ given v = rw t.2 at e in
        rw (t.2, t.3) (more next ∙ rw (sample-taken rest t.1 v e'))

  module _ {A : Type 0} (f : List Sample → A) where
    refused-there : {k m : ℕ} → n ≡ suc k → sample_of rest ≡ refused m → samples_then f words ≡ refused m
    unfolding samples_then many
    refused-there e r = then-refused _ (more e ∙ rw r)

    pub record-refused : {w rest' : List ℕ} (n' : ℕ) {m : ℕ} → TakenFrom n rest w n' rest' → judgement_of w ≡ refused m → samples_then f words ≡ refused m
    record-refused n' {m} t e =
        let e' : judgement_of (take record_words rest) ≡ refused m = rw t.2 at e in
        refused-there (next n' t) (sample-refused rest t.1 m e')

    words-over : n ≡ 0 → 0 < length rest → samples_then f words ≡ refused (number_of refusal.BatchLength)
    unfolding samples_then
    words-over e h =
        let some : length rest ≡ 0 → ⊥ = λ z. omega arith in
        then-taken _ (none e) ∙ rw (ne_eqb (length rest) 0 some)

    -- the next record is not whole, or words are left over
    pub walk-refused : {why : Refusal} → NoneFrom n rest why → samples_then f words ≡ refused (number_of why)
    walk-refused {why} t = rw t.2 (go n refl)
      where
        go : (k : ℕ) → n ≡ k → samples_then f words ≡ refused (number_of refusal.BatchLength)
        go zero e = words-over e (t.1 e)
        go (suc k) e = refused-there e (sample-short rest (t.0 (omega (arith, e))))

    pub walk-done : n ≡ 0 → length rest ≡ 0 → samples_then f words ≡ given (f before)
    unfolding samples_then
    walk-done e h = then-taken _ (none e) ∙ rw (eq-eqb (length rest) 0 h)

-- ---- from the samples to the batch: g is told of the batch that has the charts, where f is told of its samples

module _ {A : Type 0} (g : Outcome Batch → Outcome A) (f : List Sample → A) (cs : List Chart)
    (keeps : (n : ℕ) → g (refused n) ≡ refused n)
    (tells : (ss : List Sample) → g (given (record { charts = cs; samples = ss })) ≡ given (f ss)) where
  by_left : (ss : List Sample) (none : Bool)
      → demand none (number_of refusal.BatchLength) (given (f ss)) ≡ g (demand none (number_of refusal.BatchLength) (given (record { charts = cs; samples = ss })))
  by_left ss true = sym (tells ss)
  by_left ss false = sym (keeps (number_of refusal.BatchLength))

  by-samples : (x : Read (List Sample))
      → then x (λ ss t. nothing_is_left t (given (f ss))) ≡ g (then x (λ ss t. nothing_is_left t (given (record { charts = cs; samples = ss }))))
  by-samples (given p) = by_left p.0 (eqb (length p.1) 0)
  by-samples (refused n) = sym (keeps n)

  pub batch-told : (s rest : List ℕ) → charts_of s ≡ taken cs rest → samples_then f rest ≡ g (batch_of s)
  unfolding batch_of samples_then
  batch-told s rest e = by-samples (samples_of rest) ∙ sym (ap g (then-taken _ e))
