-- From what the code's steps say to the answer, of two batches that have passed their own tests.
use mathlib.Core.Path.{◌≡◌, sym, ap, ◌∙◌}
use mathlib.Core.List.{List, ◌∷◌, ◌++◌, map}
use Prim.Native.Nat.{ℕ, ◌+◌, ◌≤◌}
use lib.Dec.{leb}
use lib.ListN.{length, get_or, drop, length-append}
use Rattle.refusal.specs.Outcome.{Outcome, demand}
use Rattle.refusal.specs.Outcome.Outcome.{given, refused}
use Rattle.refusal.specs.Numbers.{number_of}
use Rattle.refusal.specs.declared.Refusal.{Refusal}
use Rattle.refusal.specs.declared.Refusal.TheVariants as refusal
use Rattle.refusal.proofs.LentLaws.{Answers, refused-before}
use Rattle.words.specs.Sections.{all_words, section_words}
use Rattle.words.proofs.SectionLaws.{words_append}
use Rattle.chart_section.specs.ChartSection.{Chart, most_charts, chart_words}
use Rattle.batch.specs.Batches.{Batch, most_samples}
use Rattle.batch.specs.Layout.{sample_words, layout}
use Rattle.std.specs.Borrow.{Bor}
use Rattle.std.specs.Prelude.{Result, Ok, Err}
use Rattle.joining.specs.declared.buffer.Buffer.{Buffer}
use Rattle.joining.specs.Charts.{joined_chart, joined_charts, tested_charts}
use Rattle.joining.specs.Joins.{joined, joined_words, joined_of}
use Rattle.joining.specs.Steps.{charts_in, rest_in, Holds, FirstSaid, SamplesThere, finished, held_words}
use Rattle.joining.proofs.ChartLaws.{few-charts}
use Rattle.joining.proofs.WalkLaws.{valid-charts}
use Rattle.joining.proofs.PartLaws.{Parts, rest-there}

module _ (first second : List ℕ) (p : Parts first) (q : Parts second) where
  abbrev a : Batch
  a = p.batch

  abbrev b : Batch
  b = q.batch

  joined_is : joined_of first second ≡ joined_words a b
  unfolding joined_of
  joined_is = rw (p.is, q.is)

  abbrev samples : ℕ
  samples = get_or (rest_in first) 0 0 + get_or (rest_in second) 0 0

  tested-is : joined_words a b ≡ tested_charts (charts_in first) (charts_in second) (demand (leb (length a.samples + length b.samples) most_samples) (number_of refusal.JoinedCount) (given (layout (joined a b))))
  unfolding joined_words
  tested-is = rw (p.charts, q.charts)

  all-refused : {n : ℕ} → ((rest : Outcome (List ℕ)) → tested_charts (charts_in first) (charts_in second) rest ≡ refused n) → joined_of first second ≡ refused n
  all-refused t = joined_is ∙ tested-is ∙ t _

  abbrev charts : List Chart
  charts = joined_charts (charts_in first) (charts_in second)

  words_are : section_words chart_words charts ++ (samples ∷ (drop 1 (rest_in first) ++ drop 1 (rest_in second))) ≡ layout (joined a b)
  unfolding layout
  words_are = rw (p.charts, q.charts, p.rest, q.rest, length-append a.samples b.samples, words_append sample_words a.samples b.samples)

  samples-are : samples ≡ length a.samples + length b.samples
  samples-are = rw (p.rest, q.rest)

  finished-is : ((rest : Outcome (List ℕ)) → tested_charts (charts_in first) (charts_in second) rest ≡ rest)
      → finished (length charts) (all_words chart_words charts) (rest_in first) (rest_in second) ≡ joined_of first second
  unfolding finished
  finished-is t =
      rw samples-are
      (ap (λ (w : List ℕ). demand (leb (length a.samples + length b.samples) most_samples) (number_of refusal.JoinedCount) (given w)) (ap (λ (n : ℕ). section_words chart_words charts ++ (n ∷ (drop 1 (rest_in first) ++ drop 1 (rest_in second)))) (sym samples-are) ∙ words_are))
      ∙ sym (joined_is ∙ tested-is ∙ t _)

  few-joined : length charts ≤ most_charts
  few-joined = few-charts (charts_in first) (charts_in second) (valid-charts first p.has).each (valid-charts second q.has).each

  -- what the loop over the first batch's charts says
  module _ (r : Result (Bor (List ℕ)) Refusal) (begun : Buffer) (said : FirstSaid r first (charts_in second) begun) where
    pub first-refused : (old : List ℕ) {why : Refusal} → r ≡ Err why → Answers (joined_of first second) old (refused (number_of why)) old
    first-refused old {why} is =
        let t : FirstSaid (Err why) first (charts_in second) begun = rw is at said in
        refused-before (joined_of first second) old (number_of why) (sym (all-refused t))

    module _ (before : Bor (List ℕ)) (is : r ≡ Ok before) where
      begun-said : FirstSaid (Ok before) first (charts_in second) begun
      begun-said = rw is at said

      pub first-held : Holds begun (map (joined_chart (charts_in second)) (charts_in first))
      first-held = begun-said.1

      pub first-there : SamplesThere before.now
      first-there = rw begun-said.0 (rest-there first p)

      -- and what that over the second's says
      module _ (after : List ℕ) (rest : after ≡ rest_in second) (buffer : Buffer) (held : Holds buffer charts) where
        pub second-there : SamplesThere after
        second-there = rw rest (rest-there second q)

        same : finished buffer.count (held_words buffer) before.now after ≡ joined_of first second
        same = rw (held.counted, held.words, begun-said.0, rest) (finished-is begun-said.2)

        pub joined-answers : (old : List ℕ) (x : Outcome ℕ) (new : List ℕ) → Answers (finished buffer.count (held_words buffer) before.now after) old x new
            → Answers (joined_of first second) old x new
        joined-answers old x new d = rw same at d
