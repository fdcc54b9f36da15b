-- Document 02 (iii), 'Runs of one day joined': two batches joined, and what is answered to the words of both.
use Rattle.std.specs.Prelude.{List, ◌++◌, ℕ, ◌+◌, leb, length}
use Rattle.refusal.specs.Outcome.{Outcome, demand}
use Rattle.refusal.specs.Outcome.Outcome.{given, refused}
use Rattle.refusal.specs.Numbers.{number_of}
use Rattle.refusal.specs.declared.Refusal.TheVariants as refusal
use Rattle.batch.specs.Batches.{Batch, most_samples, batch_of}
use Rattle.batch.specs.Layout.{layout}
use Rattle.joining.specs.Charts.{joined_charts, tested_charts}

-- 'Samples of the first come first too'
abbrev pub joined : Batch → Batch → Batch
joined a b = record { charts = joined_charts a.charts b.charts; samples = a.samples ++ b.samples }

-- 'chart by chart .., samples last'. Charts can't be too many: each of ten elements comes once
unfoldable pub joined_words : Batch → Batch → Outcome (List ℕ)
joined_words a b =
    tested_charts a.charts b.charts
    (demand (leb (length a.samples + length b.samples) most_samples) (number_of refusal.JoinedCount)
    (given (layout (joined a b))))

-- 'both come after the first batch and then the second has passed its own tests'
abbrev pub joined_by : Outcome Batch → Outcome Batch → Outcome (List ℕ)
joined_by (refused n) y = refused n
joined_by (given a) (refused n) = refused n
joined_by (given a) (given b) = joined_words a b

-- 'The answer is the joined batch in the file's layout'
unfoldable pub joined_of : List ℕ → List ℕ → Outcome (List ℕ)
joined_of first second = joined_by (batch_of first) (batch_of second)
