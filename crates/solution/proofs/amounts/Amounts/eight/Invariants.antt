use mathlib.Core.Path.{◌≡◌}
use Prim.Native.Nat.{◌*◌}
use Rattle.solution.specs.Ions.{cation_charge, anion_charge, conducted, sum}
use Rattle.solution.specs.ByValue.{amount_at}
use Rattle.solution.specs.Ends.{is_greatest}
use Rattle.solution.proofs.amounts.Amounts.eight.Given as goal

abbrev pub invariant-loop-i : goal.invariant-loop-i
invariant-loop-i l = (l.cations.0 ≡ sum (λ k. cation_charge k * amount_at (is_greatest l.self.end) l.self.analytes k) l.i)
    × (l.anions.0 ≡ sum (λ k. anion_charge k * amount_at (is_greatest l.self.end) l.self.analytes k) l.i)
    × (l.conductivity.0 ≡ sum (λ k. conducted k * amount_at (is_greatest l.self.end) l.self.analytes k) l.i)
