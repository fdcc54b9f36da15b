-- Narrower ranges leave fewer choices, so a check of two sums that was decided over the wider ones is decided alike.
use mathlib.Core.Path.{◌≡◌, refl}
use mathlib.Core.Bool.{Bool, true, false}
use Prim.Native.Nat.{ℕ, ◌≤◌}
use native.Mathlib.Nat.{le_trans, mul-le-mul_right}
use native.Mathlib.Omega.{arith}
use Rattle.judge.specs.Choices.{Bracket, InBracket, Ranges, Choice, Among}
use Rattle.judge.specs.Verdicts.{applied}
use Rattle.judge.specs.Corners.{Check, passes_of}
use Rattle.judge.specs.Finer.{Kept}
use Rattle.judge.proofs.Mixing.{Proper}
use Rattle.judge.proofs.Judging.{one-verdict, judged-few, judged-fewer}
use Rattle.judge.proofs.CornerLaws.{Sound, passes-judged, a-choice}

-- ---- the choices
pub record NarrowerBracket (old new : Bracket) : Type 0 where
  pub least : old.least ≤ new.least
  pub most : new.most ≤ old.most
  pub unit : new.unit ≡ old.unit

-- amounts and correction within those of others, at the same hydrogen
pub record Narrower (old new : Ranges) : Type 0 where
  pub least : (i : ℕ) → old.least i ≤ new.least i
  pub greatest : (i : ℕ) → new.greatest i ≤ old.greatest i
  pub correction : NarrowerBracket old.correction new.correction
  pub floor : new.floor ≡ old.floor
  pub whole : new.whole ≡ old.whole

in-wider : (old new : Bracket) → NarrowerBracket old new → (n d : ℕ) → InBracket new n d → InBracket old n d
in-wider old new w n d b =
    record {
      divides = b.divides;
      over = rw (← w.unit) (le_trans (mul-le-mul_right d w.least) b.over);
      under = rw (← w.unit) (le_trans b.under (mul-le-mul_right d w.most));
    }

module _ (old new : Ranges) (w : Narrower old new) where
  pub narrower-among : (c : Choice) → Among new c → Among old c
  narrower-among c a =
      let v = a.values in
      record {
        values =
            record {
              divides = v.divides;
              over = λ i. le_trans (mul-le-mul_right c.divisor (w.least i)) (v.over i);
              under = λ i. le_trans (v.under i) (mul-le-mul_right c.divisor (w.greatest i));
              correction = in-wider old.correction new.correction w.correction c.correction c.correction_divisor v.correction;
            };
        hydrogen = rw (← w.floor, ← w.whole) a.hydrogen;
      }

-- ---- the verdicts
module _ (k : Check) (o : Sound k) (old new : Ranges) (p : Proper old) (p' : Proper new) (w : Narrower old new) where
  passes_kept : Kept (passes_of k old) (passes_of k new)
  passes_kept =
      let c : (c : Choice) × Among new c = a-choice k o new p' in
      record {
        stays = λ n. one-verdict c.0 c.1 (passes-judged k o new p') (judged-fewer (narrower-among old new w) n (passes-judged k o old p));
        undecided = λ e. let few = judged-few (passes-judged k o new p') in (few.0, omega (arith, few.1));
      }

  -- where the check applies to both or to neither, and lacks a reading in both or in neither
  pub verdict-kept : (applies known : Bool) → Kept (applied applies known (passes_of k old)) (applied applies known (passes_of k new))
  verdict-kept true true = passes_kept
  verdict-kept true false = record { stays = λ n. refl; undecided = λ e. absurd (omega arith) }
  verdict-kept false known = record { stays = λ n. refl; undecided = λ e. absurd (omega arith) }
