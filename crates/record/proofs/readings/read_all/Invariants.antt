use mathlib.Core.Path.{◌≡◌}
use mathlib.Core.Bool.{true}
use lib.ListN.{length, take}
use Rattle.refusal.specs.Outcome.{is_given}
use Rattle.record.specs.Record.{readings, read_at, all_below}
use Rattle.record.specs.Tested.{first_analytes}
use Rattle.record.proofs.readings.read_all.Given as goal

abbrev pub invariant-loop-i : goal.invariant-loop-i
invariant-loop-i l =
    record {
      all : all_below (λ k. is_given (read_at l.words k)) l.i ≡ true;
      long : length l.analytes ≡ readings;
      held : take l.i l.analytes ≡ first_analytes l.words l.i;
    }
