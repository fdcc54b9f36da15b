-- A batch's own tests: the loop over the samples, and from the samples to the batch.
use Rattle.refusal.specs.Outcome.{outcome_of}
use mathlib.Core.Path.{◌≡◌, refl, sym, ap, ◌∙◌}
use mathlib.Core.List.{List, [], ◌∷◌}
use Prim.Native.Nat.{ℕ, ◌-◌, ◌≤◌}
use lib.ListN.{length, take, drop}
use Rattle.refusal.specs.Outcome.Outcome.{given, refused}
use Rattle.refusal.specs.Numbers.{number_of}
use Rattle.refusal.specs.declared.Refusal.{Refusal}
use Rattle.std.specs.Prelude.{Result}
use Rattle.judge.specs.Judgements.{verdicts_of}
use Rattle.judge.specs.Repeats.{acceptance_of}
use Rattle.judge.proofs.RepeatLaws.{accepted-judged, refused-judged}
use Rattle.words.proofs.SliceLaws.{rest_of}
use Rattle.words.proofs.ManyLaws.{then-refused}
use Rattle.std.specs.Prelude.{Ok, Err}
use Rattle.chart_section.specs.declared.columns.ChartColumns.{ChartColumns}
use Rattle.chart_section.specs.Columns.{columns_of, terms_of}
use Rattle.chart_section.proofs.Laws.{Held, columns-held, columns-refused}
use Rattle.batch.specs.Batches.{Sample, most_samples, batch_of, tested_by, test_of}
use Rattle.batch.specs.Steps.{TakenFrom, NoneFrom, samples_test}
use Rattle.batch.proofs.ReadingLaws.{Left, walk-begins, next-left, record-refused, walk-refused, walk-done, batch-told}

-- ---- the loop

pub record Testing (words : List ℕ) (n : ℕ) (rest : List ℕ) : Type 0 where
  pub before : List Sample
  pub left : Left words n rest before

pub testing-begins : (words : List ℕ) (n : ℕ) (rest : List ℕ) → words ≡ n ∷ rest → n ≤ most_samples → Testing words n rest
testing-begins words n rest e l = record { before = []; left = walk-begins words n rest e l }

module _ (words : List ℕ) (n : ℕ) (rest : List ℕ) (t : Testing words n rest) where
  abbrev told : List Sample → Unit {0}
  told ss = tt

  module _ {w rest' : List ℕ} (n' : ℕ) (h : TakenFrom n rest w n' rest') where
    pub testing-next : acceptance_of w ≡ given tt → Testing words n' rest'
    testing-next e = record { before = _; left = next-left words n rest t.before t.left n' h (verdicts_of w) (accepted-judged w e) }

    pub testing-refused : {m : ℕ} → acceptance_of w ≡ refused m → samples_test words ≡ refused m
    testing-refused e = record-refused words n rest t.before t.left told n' h (refused-judged w e)

  pub testing-none : {why : Refusal} → NoneFrom n rest why → samples_test words ≡ refused (number_of why)
  testing-none h = walk-refused words n rest t.before t.left told h

  pub testing-done : n ≡ 0 → length rest ≡ 0 → samples_test words ≡ given tt
  testing-done e h = walk-done words n rest t.before t.left told e h

-- ---- the batch

module _ (s : List ℕ) (columns : ChartColumns) (m : terms_of columns ≡ columns_of s) where
  pub test-refused : {why : Refusal} → columns.ended ≡ Err why → refused (number_of why) ≡ test_of s
  unfolding test_of batch_of
  test-refused e = sym (ap tested_by (then-refused _ (columns-refused s columns m e)))

  module _ (size : ℕ) (e : columns.ended ≡ Ok size) where
    held : Held s columns size
    held = columns-held s columns m e

    pub test-size : size ≤ length s
    test-size = held.inside

    pub test-samples : (r : Result (Unit {0}) Refusal) → outcome_of r ≡ samples_test (take (length s - size) (drop size s)) → outcome_of r ≡ test_of s
    unfolding test_of
    test-samples r told =
        told ∙ ap samples_test (rest_of s size) ∙ batch-told tested_by (λ ss. tt) held.charts (λ n. refl) (λ ss. refl) s (drop size s) held.read
