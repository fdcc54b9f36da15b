-- `Making` holds before each turn: the rows made so far are the first words of the buffer, and what is left of the words
-- decides the rest. Each way out is a law of it.
use mathlib.Core.Path.{sym, ap, ◌∙◌}
use borrow.Author.Rules.{rules}
use Rattle.std.proofs.lemmas.Result.{err_from_is_err_and}
use Rattle.judge.specs.Judgements.{judgement_outcome}
use Rattle.batch.proofs.ReadingLaws.{section-refused}
use Rattle.batch.proofs.SampleLaws.{making-begins, making-next, making-refused, making-none, making-done}
use Rattle.batch.proofs.samples.make_rows.Goals as goal

pub returns-in_err-samples : goal.returns-in_err-samples
returns-in_err-samples c =
    let p = err_from_is_err_and c.from_residual.result c.from_residual.ensures.1 in
    rw (p.1, p.2) (section-refused _ _ c.in_err-samples.ensures)

pub loop-record-init : goal.loop-record-init
loop-record-init c = making-begins _ _ _ _ _ c.in_ok-samples.ensures.0 c.in_ok-samples.ensures.1 (search rules) (search rules)

pub returns-in_err-record : goal.returns-in_err-record
returns-in_err-record c =
    let p = err_from_is_err_and c.from_residual-in_err-record.result c.from_residual-in_err-record.ensures.1 in
    rw (p.1, p.2) (making-none _ _ _ _ _ _ c.loop-record.invariant c.in_err-record.ensures)

pub returns-in_err-verdicts : goal.returns-in_err-verdicts
returns-in_err-verdicts c =
    let p = err_from_is_err_and c.from_residual-in_err-verdicts.result c.from_residual-in_err-verdicts.ensures.1 in
    rw (p.1, p.2)
    (making-refused _ _ _ _ _ _ c.loop-record.invariant _ (rw c.in-Some.is at c.in_ok-record.ensures) c.test-own.result
    (record { answered = c.test-own.ensures })
    (sym c.judge_tested.ensures ∙ ap judgement_outcome c.in_err-verdicts.was))

pub loop-record-preserved : goal.loop-record-preserved
loop-record-preserved c =
    making-next _ _ _ _ _ _ c.loop-record.invariant _ (rw c.in-Some.is at c.in_ok-record.ensures) c.test-own.result
    (record { answered = c.test-own.ensures })
    _ _ _
    (sym c.judge_tested.ensures ∙ ap judgement_outcome c.in_ok-verdicts.was)
    c.row-row.ensures
    c.place.ensures.lent

pub returns : goal.returns
returns c =
    let h = rw c.in_default.is at c.in_ok-record.ensures in
    (making-done _ _ _ _ _ _ c.loop-record.invariant h.0 h.1, search rules)
