-- The loop's invariant: the strength is that of the ions passed, and none of so many ions is above that of all at their greatest.
use mathlib.Core.Path.{◌≡◌, refl, sym, ap, ap₂, ◌∙◌}
use Prim.Native.Nat.{ℕ, ◌+◌, ◌*◌, ◌^◌, ◌<◌}
use native.Mathlib.Omega.{arith}
use Rattle.record.specs.Record.{ions}
use Rattle.solution.specs.Ions.{strength_added, sum}
use Rattle.solution.specs.ByValue.{amount_at}
use Rattle.solution.specs.Ends.{is_greatest}
use Rattle.solution.specs.Steps.{Adds}
use Rattle.solution.proofs.SumLaws.{sum-next}
use Rattle.solution.proofs.IonLaws.{strength-only, next_small, strength-next}
use Rattle.solution.proofs.amounts.Amounts.strength.Goals as goal

pub loop-i-init : goal.loop-i-init
unfolding sum
loop-i-init c = refl

pub of_ion-ion-requires : goal.of_ion-ion-requires
of_ion-ion-requires c = (omega arith, search next_small)

pub plus-strength-requires : goal.plus-strength-requires
plus-strength-requires c = let fits : c.loop-i.strength.0 + c.of_ion-ion.result.strength.0 < 2 ^ 64 = search strength-next in omega (arith, fits)

pub loop-i-preserved : goal.loop-i-preserved
loop-i-preserved c =
    let at = c.loop-i in
    let own = c.args.self.now in
    let a = amount_at (is_greatest own.end) own.analytes in
    let adds : Adds at.i (a at.i) c.of_ion-ion.result = rw c.at.ensures at c.of_ion-ion.ensures in
    c.plus-strength.ensures ∙ ap₂ (λ (x y : ℕ). x + y) at.invariant adds.strength ∙ sym (sum-next (λ k. strength_added k * a k) at.i)

pub returns : goal.returns
returns c =
    let own = c.args.self.now in
    let a = amount_at (is_greatest own.end) own.analytes in
    let at = c.loop-i in
    let e : at.i ≡ ions = omega arith in
    at.invariant ∙ ap (sum (λ k. strength_added k * a k)) e ∙ sym (strength-only a)
