-- What is answered to two batches is the joined batch: it is valid, each sample keeps its verdicts, and its flag is by the joined charts.
use mathlib.Core.Path.{◌≡◌, refl, sym, ap, ◌∙◌}
use mathlib.Core.Bool.{Bool}
use mathlib.Core.List.{List, [], ◌∷◌, ◌++◌}
use Prim.Native.Nat.{ℕ, ◌+◌, ◌≤◌}
use native.Mathlib.Omega.{arith}
use lib.Dec.{leb}
use lib.ListN.{length, length-append}
use borrow.Author.Tests.{leb-true}
use Rattle.refusal.specs.Outcome.{Outcome}
use Rattle.refusal.specs.Outcome.Outcome.{given, refused}
use Rattle.refusal.specs.Numbers.{number_of}
use Rattle.refusal.specs.declared.Refusal.TheVariants as refusal
use Rattle.refusal.proofs.Rows.{row-given}
use Rattle.refusal.proofs.Outcomes.{never}
use Rattle.chart.specs.Values.{most_later}
use Rattle.words.proofs.EachLaws.{every_append, every-parts}
use Rattle.chart_section.specs.ChartSection.{Chart}
use Rattle.batch.specs.Batches.{Batch, most_samples, batch_of}
use Rattle.batch.specs.Rows.{answer_of, answered_by, batch_answer}
use Rattle.batch.specs.Layout.{Judged, layout, ValidBatch}
use Rattle.batch.proofs.Laws.{layout-laws}
use Rattle.joining.specs.Charts.{Match, key_of, match_in}
use Rattle.joining.specs.Joins.{joined, joined_words, joined_by, joined_of}
use Rattle.joining.specs.Promise.{JoinedAs, Joined, JoinsTwo}
use Rattle.joining.proofs.TestLaws.{Agrees, AllAgree, all_tested}
use Rattle.joining.proofs.ChartLaws.{joined-valid}
use Rattle.joining.proofs.FoundLaws.{found_at}
use Rattle.joining.proofs.RowLaws.{kept-first, kept_second, flag-of}

-- ---- the joined charts

agrees-both : (c d : Chart) (m : Match) → m ≡ Match.both d → Agrees c m → (c.setup ≡ d.setup) × (length (c.later ++ d.later) ≤ most_later)
agrees-both c d m e a =
    let h : Agrees c (Match.both d) = rw e at a in
    (h.0, omega (arith, h.1, length-append c.later d.later))

-- ---- the answer

answered-by : (s : List ℕ) (b : Batch) → batch_of s ≡ given b → batch_answer s ≡ given (answer_of b)
unfolding batch_answer
answered-by s b e = ap answered_by e

module _ (a b : Batch) (p : ValidBatch a) (q : ValidBatch b) (words : List ℕ) (e : joined_words a b ≡ given words) where
  passed : AllAgree a.charts b.charts × (length a.samples + length b.samples ≤ most_samples) × (layout (joined a b) ≡ words)
  unfolding joined_words
  passed =
      let t = all_tested a.charts b.charts _ words e in
      let tests : List (Bool × ℕ) = (leb (length a.samples + length b.samples) most_samples, number_of refusal.JoinedCount) ∷ [] in
      let r = row-given tests (given (layout (joined a b))) words t.1 in
      let same : layout (joined a b) ≡ words = cc r.1 in
      (t.0, leb-true (length a.samples + length b.samples) most_samples r.0.0, same)

  few-samples : length (a.samples ++ b.samples) ≤ most_samples
  few-samples = omega (arith, passed.1, length-append a.samples b.samples)

  valid : ValidBatch (joined a b)
  valid =
      record {
        charts = joined-valid a.charts b.charts p.charts.each q.charts.each passed.0;
        few = few-samples;
        judged = every_append Judged a.samples b.samples p.judged q.judged;
      }

  read : batch_of words ≡ given (joined a b)
  read = ap batch_of (sym passed.2) ∙ layout-laws.back (joined a b) valid

  pub joined_as : JoinedAs a b words
  joined_as =
      record {
        laid = sym passed.2;
        valid = valid;
        read = read;
        setups = λ c d before after earlier further at other key.
            agrees-both c d (match_in b.charts (key_of c)) (found_at b.charts q.charts.each earlier d further other (key_of c) (sym key))
            (every-parts _ before (c ∷ after) (rw at at passed.0)).1.0;
        answered = answered-by words (joined a b) read;
        rows = length-append a.samples b.samples;
        kept_first = λ i h. kept-first (joined a b).charts a.charts _ _ a.samples b.samples i h;
        kept_of_second = λ i h. kept_second (joined a b).charts b.charts _ _ a.samples b.samples i h;
        flags = λ i h. flag-of (joined a b).charts _ (a.samples ++ b.samples) i h;
      }

by-batches : (first second words : List ℕ) (x y : Outcome Batch) → batch_of first ≡ x → batch_of second ≡ y → joined_by x y ≡ given words → Joined first second words
by-batches first second words (given a) (given b) f s e =
    record {
      a = a;
      b = b;
      read_first = f;
      read_second = s;
      answered_first = answered-by first a f;
      answered_second = answered-by second b s;
      says = joined_as a b (layout-laws.valid first a f) (layout-laws.valid second b s) words e;
    }
by-batches first second words (given a) (refused n) f s e = never e
by-batches first second words (refused n) y f s e = never e

pub joins-two : JoinsTwo
unfolding joined_of
joins-two first second words e = by-batches first second words (batch_of first) (batch_of second) refl refl e
