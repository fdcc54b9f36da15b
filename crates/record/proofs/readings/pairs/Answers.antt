-- Pair i stands at the two places of reading i.
use native.Mathlib.Omega.{arith}
use lib.ListN.{drop}
use lib.Seq.{take_all}
use Rattle.std.proofs.Common.{length-drop}
use Rattle.record.proofs.PairLaws.{pair-at}
use Rattle.record.proofs.readings.pairs.Goals as goal

pub returns-clause-each : goal.returns-clause-each
returns-clause-each c = λ i l.
    let s = c.args.words.now in
    rw c.as_chunks.ensures.front (pair-at s 6 i (take_all 20 (drop 6 s) (omega (arith, length-drop 6 s))) (omega (arith, length-drop 6 s)))
