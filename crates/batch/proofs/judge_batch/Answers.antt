-- Where the charts are refused, so is the batch; else the answer to its samples is the answer to it.
use borrow.Author.Rules.{rules}
use Rattle.std.proofs.lemmas.Result.{err_from_is_err_and}
use Rattle.batch.proofs.Laws.{layout-laws}
use Rattle.batch.proofs.WholeLaws.{read-refused, read-size, read-judged}
use Rattle.batch.proofs.judge_batch.Goals as goal

pub offset_bounds-words-size : goal.offset_bounds-words-size
offset_bounds-words-size c =
    let size = read-size _ c.read-read.result c.read-read.ensures _ c.in_ok-size.was in
    search rules

pub slice_bounds-judge_samples-count : goal.slice_bounds-judge_samples-count
slice_bounds-judge_samples-count c = read-size _ c.read-read.result c.read-read.ensures _ c.in_ok-size.was

pub slice_bounds-judge_samples-start : goal.slice_bounds-judge_samples-start
slice_bounds-judge_samples-start c =
    let size = read-size _ c.read-read.result c.read-read.ensures _ c.in_ok-size.was in
    search rules

pub returns : goal.returns
returns c =
    let out = c.args.out.now in
    let e = c.judge_samples.ensures in
    let d = read-judged _ c.read-read.result c.read-read.ensures _ c.in_ok-size.was out c.judge_samples.result _ (rw c.charts.ensures at e.answer, rw c.charts.ensures at e.lent) in
    record { answer = d.0; lent = d.1; layout = layout-laws }

pub returns-in_err-size : goal.returns-in_err-size
returns-in_err-size c =
    let out = c.args.out.now in
    let p = err_from_is_err_and c.from_residual.result c.from_residual.ensures.1 in
    let d = read-refused _ c.read-read.result c.read-read.ensures out _ c.in_err-size.was in
    record { answer = rw (p.1, p.2) d.0; lent = d.1; layout = layout-laws }
