-- Where the charts are refused, so is the batch; else the tests of its samples are the rest of its own.
use mathlib.Core.Path.{◌∙◌}
use borrow.Author.Rules.{rules}
use Rattle.refusal.proofs.Outcomes.{handed-on}
use Rattle.batch.proofs.TestLaws.{test-refused, test-size, test-samples}
use Rattle.batch.proofs.test.Goals as goal

pub offset_bounds-words-size : goal.offset_bounds-words-size
offset_bounds-words-size c =
    let size = test-size _ c.read-read.result c.read-read.ensures _ c.in_ok-size.was in
    search rules

pub slice_bounds-test_samples-count : goal.slice_bounds-test_samples-count
slice_bounds-test_samples-count c = test-size _ c.read-read.result c.read-read.ensures _ c.in_ok-size.was

pub slice_bounds-test_samples-start : goal.slice_bounds-test_samples-start
slice_bounds-test_samples-start c =
    let size = test-size _ c.read-read.result c.read-read.ensures _ c.in_ok-size.was in
    search rules

pub returns : goal.returns
returns c = test-samples _ c.read-read.result c.read-read.ensures _ c.in_ok-size.was c.test_samples.result c.test_samples.ensures

pub returns-in_err-size : goal.returns-in_err-size
returns-in_err-size c = handed-on _ _ c.from_residual.ensures.1 ∙ test-refused _ c.read-read.result c.read-read.ensures c.in_err-size.was
