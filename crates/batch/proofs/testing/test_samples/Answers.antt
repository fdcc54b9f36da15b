-- `Testing` holds before each turn: what is left of the words decides the rest. Each way out is a law of it.
use mathlib.Core.Path.{sym, ap, ◌∙◌}
use native.Mathlib.Omega.{arith}
use Rattle.std.proofs.lemmas.List.{take_all}
use Rattle.refusal.specs.Outcome.{outcome_of}
use Rattle.refusal.proofs.Outcomes.{handed-on}
use Rattle.batch.proofs.ReadingLaws.{section-refused}
use Rattle.batch.proofs.TestLaws.{testing-begins, testing-next, testing-refused, testing-none, testing-done}
use Rattle.batch.proofs.testing.test_samples.Goals as goal

pub returns-in_err-samples : goal.returns-in_err-samples
returns-in_err-samples c = handed-on _ _ c.from_residual.ensures.1 ∙ sym (section-refused _ _ c.in_err-samples.ensures)

pub loop-record-init : goal.loop-record-init
loop-record-init c = testing-begins _ _ _ (grind (arith, take_all, c.in_ok-samples.ensures.0)) (omega (arith, c.in_ok-samples.ensures.1))

pub returns-in_err-record : goal.returns-in_err-record
returns-in_err-record c =
    handed-on _ _ c.from_residual-in_err-record.ensures.1 ∙ sym (testing-none _ _ _ c.loop-record.invariant c.in_err-record.ensures)

pub loop-record-preserved : goal.loop-record-preserved
loop-record-preserved c =
    testing-next _ _ _ c.loop-record.invariant _ (rw c.in-Some.is at c.in_ok-record.ensures) (sym c.test-tested.ensures ∙ ap outcome_of c.in_ok-tested.was)

pub returns-in_err-tested : goal.returns-in_err-tested
returns-in_err-tested c =
    handed-on _ _ c.from_residual-in_err-tested.ensures.1
    ∙ sym (testing-refused _ _ _ c.loop-record.invariant _ (rw c.in-Some.is at c.in_ok-record.ensures) (sym c.test-tested.ensures ∙ ap outcome_of c.in_err-tested.was))

pub returns : goal.returns
returns c =
    let h = rw c.in_default.is at c.in_ok-record.ensures in
    sym (testing-done _ _ _ c.loop-record.invariant h.0 h.1)
