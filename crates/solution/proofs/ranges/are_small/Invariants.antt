use mathlib.Core.Path.{◌≡◌}
use mathlib.Core.Bool.{Bool, true}
use mathlib.Core.List.{List}
use Prim.Native.Nat.{ℕ}
use lib.Dec.{leb}
use Rattle.reading.specs.declared.Analyte.{Analyte}
use Rattle.reading.specs.Amounts.{most_mass}
use Rattle.record.specs.Record.{all_below}
use Rattle.solution.specs.ByValue.{amount_at}
use Rattle.solution.proofs.ranges.are_small.Given as goal

abbrev pub small_at : List Analyte → ℕ → Bool
small_at analytes i = leb (amount_at true analytes i) most_mass

abbrev pub invariant-loop-analyte : goal.invariant-loop-analyte
invariant-loop-analyte l = l.small ≡ all_below (small_at l.analytes) l.analyte-index
