-- Each return is the answer that the tests on the way lead to; the floor's answer is the test of the pH.
use mathlib.Core.Path.{sym, ap, ◌∙◌}
use Rattle.refusal.specs.Outcome.{outcome_of}
use Rattle.refusal.specs.Outcome.Outcome.{refused}
use Rattle.refusal.proofs.Outcomes.{handed-on}
use Rattle.hydrogen.proofs.Laws.{floor-given, floor-refused}
use Rattle.record.specs.Record.{before_readings}
use Rattle.record.proofs.BetweenLaws.{is-between, is-outside}
use Rattle.record.proofs.tests.before_readings.Goals as goal

pub returns-in_err-floor : goal.returns-in_err-floor
unfolding before_readings
returns-in_err-floor c =
    let out = floor-refused _ _ (sym c.floor_at.ensures.answer ∙ ap outcome_of c.in_err-floor.was) in
    rw (sym c.if-not-has_number.ensures, sym c.if-not-in_range.ensures, is-outside _ _ _ out.out)
    (handed-on _ _ c.from_residual.ensures.1 ∙ ap (λ n. refused n) out.number)

pub returns-then-not-in_range-2 : goal.returns-then-not-in_range-2
unfolding before_readings
returns-then-not-in_range-2 c =
    let held = floor-given _ _ (sym c.floor_at.ensures.answer ∙ ap outcome_of c.in_ok-floor.was) in
    rw (sym c.if-not-has_number.ensures, sym c.if-not-in_range.ensures, is-between _ _ _ (held.least, held.most), sym c.if-not-in_range-2.ensures)

pub returns-then-not-in_range-3 : goal.returns-then-not-in_range-3
unfolding before_readings
returns-then-not-in_range-3 c =
    let held = floor-given _ _ (sym c.floor_at.ensures.answer ∙ ap outcome_of c.in_ok-floor.was) in
    rw (sym c.if-not-has_number.ensures, sym c.if-not-in_range.ensures, is-between _ _ _ (held.least, held.most), sym c.if-not-in_range-2.ensures, sym c.if-not-in_range-3.ensures)

pub returns : goal.returns
unfolding before_readings
returns c =
    let held = floor-given _ _ (sym c.floor_at.ensures.answer ∙ ap outcome_of c.in_ok-floor.was) in
    rw (sym c.if-not-has_number.ensures, sym c.if-not-in_range.ensures, is-between _ _ _ (held.least, held.most), sym c.if-not-in_range-2.ensures, sym c.if-not-in_range-3.ensures, held.is)
