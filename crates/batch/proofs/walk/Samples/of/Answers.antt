-- The section's count is not there, or is over its range.
use mathlib.Core.List.{◌∷◌}
use native.Mathlib.Omega.{arith}
use Rattle.words.proofs.ManyLaws.{section-short, section-over}
use Rattle.batch.specs.Batches.{most_samples}
use Rattle.batch.proofs.ReadingLaws.{sample_after}
use Rattle.batch.proofs.walk.Samples.of.Goals as goal

pub returns-in_default : goal.returns-in_default
returns-in_default c = section-short sample_after most_samples _ (omega (arith, c.in_default.ensures.cases))

pub returns-then-left-gt-MOST_SAMPLES : goal.returns-then-left-gt-MOST_SAMPLES
returns-then-left-gt-MOST_SAMPLES c =
    let count = c.in-Some.field-0-0.now in
    let rest = c.in-Some.rest.now in
    rw c.in-Some.ensures.cases.0 (section-over sample_after most_samples (count ∷ rest) (omega arith) c.if-left-gt-MOST_SAMPLES.true)
