-- The samples are counted and the room is measured before anything is written; then one run behind another.
use Rattle.joining.proofs.WriteLaws.{write-over, write-short, write-whole, write_same}
use Rattle.joining.proofs.writing.write.Goals as goal

pub returns-then-samples : goal.returns-then-samples
returns-then-samples c =
    let said = write-over _ _ _ _ _ c.if-samples.true in
    record { answer = said.0; lent = said.1 }

pub returns-then-out-size : goal.returns-then-out-size
returns-then-out-size c =
    let said = write_same _ _ _ _ c.charts-charts.ensures (write-short _ _ _ _ _ c.if-samples.false c.requires.0.some c.requires.1.some c.if-out-size.true) in
    record { answer = said.0; lent = said.1 }

pub returns : goal.returns
returns c =
    let said = write_same _ _ _ _ c.charts-charts.ensures (write-whole _ _ _ _ c.args.out.now c.if-samples.false c.requires.0.some c.requires.1.some c.if-out-size.false _ _ _ _ _
    c.place.ensures.lent
    c.place-2.ensures.lent
    c.place-3.ensures.lent
    c.place-4.ensures.lent
    c.place-5.ensures.lent) in
    record { answer = said.0; lent = said.1 }
