-- What the call below wrote and answered, and the code of that.
use lib.ListN.{length}
use Rattle.refusal.specs.Lent.{fitting}
use Rattle.chart.specs.Charts.{signals_of}
use Rattle.analyser.proofs.CallLaws.{written-code}
use Rattle.analyser.proofs.peltquarry_signals.Goals as goal

pub returns : goal.returns
returns c =
    let a = c.args in
    let o = fitting (length a.signals.now) (signals_of a.setup.now a.later.now) in
    record { code = written-code o c.of_written.ensures c.signals.ensures.answer; lent = c.signals.ensures.lent }
