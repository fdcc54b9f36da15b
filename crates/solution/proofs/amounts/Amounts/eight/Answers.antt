-- The loop's invariant: each sum is that of the ions passed, and no sum of so many ions is above that of all at their greatest.
use mathlib.Core.Path.{◌≡◌, refl, sym, ap, ap₂, ◌∙◌}
use Prim.Native.Nat.{ℕ, ◌+◌, ◌*◌, ◌^◌, ◌<◌}
use native.Mathlib.Omega.{arith}
use Rattle.record.specs.Record.{ions}
use Rattle.solution.specs.Ions.{cation_charge, anion_charge, conducted, sum}
use Rattle.solution.specs.ByValue.{amount_at}
use Rattle.solution.specs.Ends.{is_greatest}
use Rattle.solution.specs.Steps.{Adds}
use Rattle.solution.proofs.SumLaws.{sum-next}
use Rattle.solution.proofs.IonLaws.{cations-only, anions-only, conducted-only, next_small, cations-next, anions-next, conductivity-next}
use Rattle.solution.proofs.amounts.Amounts.eight.Goals as goal

pub loop-i-init : goal.loop-i-init
unfolding sum
loop-i-init c = (refl, refl, refl)

pub of_ion-ion-requires : goal.of_ion-ion-requires
of_ion-ion-requires c = (omega arith, search next_small)

pub plus-cations-requires : goal.plus-cations-requires
plus-cations-requires c = let fits : c.loop-i.cations.0 + c.of_ion-ion.result.cation.0 < 2 ^ 64 = search cations-next in omega (arith, fits)

pub plus-anions-requires : goal.plus-anions-requires
plus-anions-requires c = let fits : c.loop-i.anions.0 + c.of_ion-ion.result.anion.0 < 2 ^ 64 = search anions-next in omega (arith, fits)

pub plus-conductivity-requires : goal.plus-conductivity-requires
plus-conductivity-requires c = let fits : c.loop-i.conductivity.0 + c.of_ion-ion.result.conductivity.0 < 2 ^ 64 = search conductivity-next in omega (arith, fits)

pub loop-i-preserved : goal.loop-i-preserved
loop-i-preserved c =
    let at = c.loop-i in
    let own = c.args.self.now in
    let a = amount_at (is_greatest own.end) own.analytes in
    let i = at.i in
    let adds : Adds i (a i) c.of_ion-ion.result = rw c.at.ensures at c.of_ion-ion.ensures in (
      c.plus-cations.ensures ∙ ap₂ (λ (x y : ℕ). x + y) at.invariant.0 adds.cation ∙ sym (sum-next (λ k. cation_charge k * a k) i),
      c.plus-anions.ensures ∙ ap₂ (λ (x y : ℕ). x + y) at.invariant.1 adds.anion ∙ sym (sum-next (λ k. anion_charge k * a k) i),
      c.plus-conductivity.ensures ∙ ap₂ (λ (x y : ℕ). x + y) at.invariant.2 adds.conductivity ∙ sym (sum-next (λ k. conducted k * a k) i),
    )

pub returns : goal.returns
returns c =
    let own = c.args.self.now in
    let a = amount_at (is_greatest own.end) own.analytes in
    let at = c.loop-i in
    let e : at.i ≡ ions = omega arith in
    record {
      cations = at.invariant.0 ∙ ap (sum (λ k. cation_charge k * a k)) e ∙ sym (cations-only a);
      anions = at.invariant.1 ∙ ap (sum (λ k. anion_charge k * a k)) e ∙ sym (anions-only a);
      conductivity = at.invariant.2 ∙ ap (sum (λ k. conducted k * a k)) e ∙ sym (conducted-only a);
    }
