-- The conductivity is a check of two sums: sound, with the documents' inequality and bounds; and so is that of the plain sum.
use mathlib.Core.Path.{◌≡◌, refl}
use mathlib.Core.Bool.{Bool}
use mathlib.Core.Logic.{◌↔◌, inr}
use Prim.Native.Nat.{ℕ, ◌*◌, ◌≤◌}
use native.Mathlib.Omega.{arith}
use Rattle.hydrogen.proofs.Laws.{difference-times}
use Rattle.judge.specs.Classes.{percent}
use Rattle.judge.specs.Choices.{Choice}
use Rattle.judge.specs.Corners.{part_of, Passes}
use Rattle.judge.specs.Conductivity.{Conducting, sum_check, conductivity_check, plain_check, PlainConducting, conductivity_bounds}
use Rattle.judge.proofs.PartLaws.{no-weight}
use Rattle.judge.proofs.CornerLaws.{Sound}
use Rattle.judge.proofs.BoundLaws.{bounds_of}

module _ (M t CM : ℕ) (small : M ≤ percent) where
  pub conductivity-sound : (corrected : Bool) → Sound (sum_check corrected M t CM)
  conductivity-sound corrected = record { high = omega arith; low = omega arith; window = omega arith; disjoint = λ i. inr refl }

  second_is : (c : Choice) → part_of (conductivity_check M t CM).second c ≡ CM * c.divisor
  second_is c = omega (arith, no-weight c.amount)

  pub conductivity-passes : (c : Choice) → Passes (conductivity_check M t CM) c ↔ Conducting M t CM c
  conductivity-passes c =
      let less = difference-times percent M (c.correction_divisor * (CM * c.divisor)) small in (
        λ w. record { holds = omega (arith, less, rw (second_is c) at w.high, rw (second_is c) at w.low) },
        λ w. record { high = rw (second_is c) (omega (arith, less, w.holds)); low = rw (second_is c) (omega (arith, less, w.holds)) },
      )

  pub plain_passes : (c : Choice) → Passes (plain_check M t CM) c ↔ PlainConducting M t CM c
  plain_passes c =
      let less = difference-times percent M (CM * c.divisor) small in (
        λ w. record { holds = omega (arith, less, rw (second_is c) at w.high, rw (second_is c) at w.low) },
        λ w. record { high = rw (second_is c) (omega (arith, less, w.holds)); low = rw (second_is c) (omega (arith, less, w.holds)) },
      )

  pub conductivity-bounds : (c : Choice) → bounds_of (conductivity_check M t CM) c ≡ conductivity_bounds M t CM c
  conductivity-bounds c = rw (second_is c)
