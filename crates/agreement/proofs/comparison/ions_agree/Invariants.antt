use mathlib.Core.Path.{◌≡◌}
use mathlib.Core.Bool.{true}
use Rattle.record.specs.Record.{all_below}
use Rattle.agreement.specs.Compared.{ions_agree_at}
use Rattle.agreement.proofs.comparison.ions_agree.Given as goal

abbrev pub invariant-loop-i : goal.invariant-loop-i
invariant-loop-i l = all_below (ions_agree_at l.a l.b) l.i ≡ true
