-- The ion balance is a check of two sums: sound, with document 01's inequality and bounds.
use mathlib.Core.Path.{◌≡◌, refl}
use mathlib.Core.Logic.{◌↔◌, ◌⊎◌, inl, inr}
use Prim.Native.Nat.{ℕ, zero, suc, ◌+◌, ◌-◌, ◌≤◌, ◌<◌}
use native.Mathlib.Nat.{mul-one, one-mul, zero-mul, zero-add, mul-le-mul, le_of_lt}
use native.Mathlib.Omega.{arith}
use Rattle.hydrogen.proofs.Laws.{difference-times}
use Rattle.solution.specs.Ions.{cation_factor, anion_factor, cation_charge, anion_charge}
use Rattle.judge.specs.Classes.{percent_of_mean}
use Rattle.judge.specs.Choices.{Choice}
use Rattle.judge.specs.Corners.{Passes}
use Rattle.judge.specs.IonBalance.{cations, anions, Balanced, balance_check, balance_bounds}
use Rattle.judge.proofs.CornerLaws.{Sound}
use Rattle.judge.proofs.BoundLaws.{bounds_of}

disjoint : (i : ℕ) → (cation_charge i ≡ 0) ⊎ (anion_charge i ≡ 0)
unfolding cation_factor anion_factor
disjoint zero = inr refl
disjoint (suc zero) = inr refl
disjoint (suc (suc zero)) = inr refl
disjoint (suc (suc (suc zero))) = inr refl
disjoint (suc (suc (suc (suc zero)))) = inr refl
disjoint (suc (suc (suc (suc (suc zero))))) = inl refl
disjoint (suc (suc (suc (suc (suc (suc zero)))))) = inl refl
disjoint (suc (suc (suc (suc (suc (suc (suc zero))))))) = inl refl
disjoint (suc (suc (suc (suc (suc (suc (suc (suc n)))))))) = inl refl

module _ (L t : ℕ) (small : L < percent_of_mean) where
  pub balance-sound : Sound (balance_check L t)
  balance-sound =
      let less : percent_of_mean - L ≤ percent_of_mean + L = omega arith in
      record { high = omega arith; low = omega arith; window = mul-le-mul less less; disjoint = disjoint }

  pub balance-passes : (c : Choice) → Passes (balance_check L t) c ↔ Balanced L t c
  balance-passes c =
      let x = difference-times percent_of_mean L (cations c) (le_of_lt small) in
      let y = difference-times percent_of_mean L (anions t c) (le_of_lt small) in
      (λ w. record { holds = omega (arith, x, y, w.high, w.low) }, λ w. record { high = omega (arith, x, w.holds); low = omega (arith, y, w.holds) })

  pub balance-bounds : (c : Choice) → bounds_of (balance_check L t) c ≡ balance_bounds L t c
  balance-bounds c = simp (zero-mul, zero-add, one-mul, mul-one)
