-- A batch that has passed its own tests: its charts, and the words after them, are those of the words.
use mathlib.Core.Path.{◌≡◌, refl, sym, ap, ◌∙◌}
use mathlib.Core.Bool.{true}
use mathlib.Core.List.{List, [], ◌∷◌, ◌++◌}
use Prim.Native.Nat.{ℕ}
use native.Mathlib.Omega.{arith}
use lib.Dec.{eqb}
use lib.ListN.{length, drop}
use lib.Seq.{drop_at}
use Rattle.refusal.specs.Outcome.{Outcome, demand, is_given}
use Rattle.refusal.specs.Outcome.Outcome.{given, refused}
use Rattle.refusal.specs.Numbers.{number_of}
use Rattle.refusal.specs.declared.Refusal.TheVariants as refusal
use Rattle.refusal.proofs.Rows.{row-given}
use Rattle.words.specs.Sections.{section_words}
use Rattle.words.proofs.TakenLaws.{then-given}
use Rattle.chart_section.specs.ChartSection.{Chart, charts_of, chart_words}
use Rattle.batch.specs.Batches.{Sample, Batch, samples_of, batch_of}
use Rattle.batch.specs.Layout.{sample_words, layout, ValidBatch}
use Rattle.batch.proofs.Laws.{layout-laws}
use Rattle.batch.proofs.BackLaws.{samples-most}
use Rattle.joining.specs.Steps.{HasBatch, HasCharts, charts_by, charts_in, rest_in, SamplesThere}
use Rattle.joining.proofs.WalkLaws.{charts-there}

pub record Parts (s : List ℕ) : Type 0 where
  pub batch : Batch
  pub is : batch_of s ≡ given batch
  pub has : HasCharts s
  pub charts : charts_in s ≡ batch.charts
  pub rest : rest_in s ≡ section_words sample_words batch.samples
  pub valid : ValidBatch batch

given_is : {A : Type 0} (x : Outcome A) → is_given x ≡ true → (a : A) × (x ≡ given a)
given_is (given a) h = (a, refl)
given_is (refused n) h = let z : ◌≡◌ {A = ℕ} 0 1 = cc in absurd (omega arith)

-- the charts that were read are the batch's
charts-same : (cs : List Chart) (ss : List Sample) (left : List ℕ) (b : Batch)
    → demand (eqb (length left) 0) (number_of refusal.BatchLength) (given (record { charts = cs; samples = ss })) ≡ given b → cs ≡ b.charts
charts-same cs ss left b e =
    let here : Batch = record { charts = cs; samples = ss } in
    let q = row-given ((eqb (length left) 0, number_of refusal.BatchLength) ∷ []) (given here) b e in
    let same : here ≡ b = cc q.1 in
    ap (λ (x : Batch). x.charts) same

pub parts-of : (s : List ℕ) → HasBatch s → Parts s
unfolding batch_of charts_in layout
parts-of s h =
    let p = given_is (batch_of s) h in
    let b = p.0 in
    let c = then-given (charts_of s) _ b p.1 in
    let d = then-given (samples_of c.1) _ b c.3 in
    let has : HasCharts s = ap is_given c.2 in
    let same : c.0 ≡ b.charts = charts-same c.0 d.0 d.1 b d.3 in
    let charts : charts_in s ≡ b.charts = ap charts_by c.2 ∙ same in
    let front = section_words chart_words b.charts in
    let there : s ≡ front ++ rest_in s = charts-there s has ∙ ap (λ (cs : List Chart). section_words chart_words cs ++ rest_in s) charts in
    let laid : s ≡ front ++ section_words sample_words b.samples = layout-laws.reads s b p.1 in
    record {
      batch = b;
      is = p.1;
      has = has;
      charts = charts;
      rest = sym (ap (drop (length front)) there ∙ drop_at front (rest_in s) (length front) refl)
          ∙ ap (drop (length front)) laid
          ∙ drop_at front (section_words sample_words b.samples) (length front) refl;
      valid = layout-laws.valid s b p.1;
    }

-- what the words after the charts keep to
pub rest-there : (s : List ℕ) → Parts s → SamplesThere (rest_in s)
rest-there s p = rw p.rest (record { some = omega arith; few = p.valid.few; most = samples-most p.batch p.valid })
