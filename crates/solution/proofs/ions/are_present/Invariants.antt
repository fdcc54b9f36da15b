use mathlib.Core.Path.{◌≡◌}
use Rattle.record.specs.Record.{all_below}
use Rattle.solution.specs.ByValue.{there_at}
use Rattle.solution.proofs.ions.are_present.Given as goal

abbrev pub invariant-loop-i : goal.invariant-loop-i
invariant-loop-i l = l.known ≡ all_below (there_at l.analytes) l.i
