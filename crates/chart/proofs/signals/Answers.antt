-- The chart is there where the values are valid: the loop writes a word a turn and leaves the rest.
use mathlib.Core.Path.{◌≡◌}
use lib.ListN.{length, take}
use Rattle.std.proofs.lemmas.List.{length-take-le}
use native.Mathlib.Omega.{arith}
use Rattle.std.proofs.lemmas.Result.{err_from_is_err_and}
use Rattle.refusal.proofs.LentLaws.{refused-before}
use Rattle.chart.proofs.ValueLaws.{accepted}
use Rattle.chart.proofs.SpreadLaws.{never-negative}
use Rattle.chart.proofs.ValidLaws.{signals-refused, too_short, written}
use Rattle.chart.proofs.WordLaws.{none_written, one_more}
use Rattle.chart.proofs.signals.Goals as goal

pub returns-in_err-chart : goal.returns-in_err-chart
returns-in_err-chart c =
    let p = err_from_is_err_and c.from_residual.result c.from_residual.ensures.1 in
    let way = refused-before _ c.args.out.now _ (signals-refused _ _ _ c.in_err-chart.ensures.answer) in
    record { answer = rw (p.1, p.2) way.0; lent = way.1; spread = never-negative }

pub returns-then-out-later : goal.returns-then-out-later
returns-then-out-later c =
    let valid = (accepted _ _ _ c.in_ok-chart.ensures.answer).0 in
    let way = too_short valid c.args.out.now c.if-out-later.true in
    record { answer = way.0; lent = way.1; spread = never-negative }

pub loop-i-init : goal.loop-i-init
loop-i-init c = none_written _ _ (take (length c.args.later.now) c.args.out.now)

pub loop-i-preserved : goal.loop-i-preserved
loop-i-preserved c =
    one_more _ _ _ _ _ (omega arith) c.loop-i.invariant (rw c.in_ok-chart.ensures.same at c.signal_at.ensures)

pub returns : goal.returns
returns c =
    let chart = accepted _ _ _ c.in_ok-chart.ensures.answer in
    let lent : length (take (length c.args.later.now) c.args.out.now) ≡ length c.args.later.now = length-take-le _ _ c.if-out-later.false in
    let way = written chart.0 c.args.out.now _ c.if-out-later.false (omega arith) (omega arith) (rw chart.1 at c.loop-i.invariant) in
    record { answer = way.0; lent = way.1; spread = never-negative }
