-- The truth of the four verdicts of every accepted record.
use mathlib.Core.Path.{◌≡◌, refl}
use mathlib.Core.Bool.{Bool, true, false}
use mathlib.Core.List.{List}
use mathlib.Core.Logic.Iff
use mathlib.Core.Logic.{◌↔◌}
use Prim.Native.Nat.{ℕ, ◌<◌}
use native.Mathlib.Omega.{arith}
use Rattle.hydrogen.specs.Floors.{is_whole}
use Rattle.hydrogen.specs.TrueHydrogen.{HydrogenAt}
use Rattle.hydrogen.proofs.Laws.{hydrogen-at}
use Rattle.reading.specs.Analytes.{analyte_of}
use Rattle.reading.proofs.AmountRangeLaws.{range-ordered}
use Rattle.record.specs.Record.{ph_of, conductivity_of, alkalinity_of, reading_at}
use Rattle.record.proofs.AcceptedLaws.{Valid}
use Rattle.solution.specs.Solutions.{ions_known, measured_of, sum_ranges_of}
use Rattle.solution.proofs.SolutionLaws.{record-bounded}
use Rattle.judge.specs.Choices.{Choice, Values, Among}
use Rattle.judge.specs.AtHydrogen.{Bounds, AtH}
use Rattle.judge.specs.Verdicts.{Judged, applied}
use Rattle.judge.specs.Corners.{Check, Passes, passes_of}
use Rattle.judge.specs.Ranges.{correction_with, ranges_of}
use Rattle.judge.specs.IonBalance.{balance_applies_to, balance_limit, balance_check}
use Rattle.judge.specs.Conductivity.{conductivity_limit, conductivity_check, plain_check, PlainConductingIn, plain_verdict}
use Rattle.judge.specs.Ratios.{ratio_applies_to, ratio_known, sodium_chloride_check, nitrogen_applies_to, nitrogen_known, nitrogen_check}
use Rattle.judge.specs.Judgements.{verdicts_of}
use Rattle.judge.specs.Truth.{CheckTruth, HydrogenTruth, Truth}
use Rattle.judge.proofs.Mixing.{Proper}
use Rattle.judge.proofs.Judging.{judged-as, judged-few, says_both}
use Rattle.judge.proofs.CornerLaws.{Sound, passes-judged, a-choice}
use Rattle.judge.proofs.BoundLaws.{bounds_of, passes-bounds}
use Rattle.judge.proofs.AtHydrogenLaws.{Tells, located, passes-tells}
use Rattle.judge.proofs.CorrectionLaws.{correction-some, correction-ordered}
use Rattle.judge.proofs.StrengthLaws.{activity-truth}
use Rattle.judge.proofs.Applying.{applied-0, applied-4, applied-is}
use Rattle.judge.proofs.LimitLaws.{balance-limit, conductivity-limit}
use Rattle.judge.proofs.BalanceLaws.{balance-sound, balance-passes, balance-bounds}
use Rattle.judge.proofs.ConductivityLaws.{conductivity-sound, conductivity-passes, plain_passes, conductivity-bounds}
use Rattle.judge.proofs.RatioLaws.{ratio-sound, ratio-passes, nitrogen-sound, nitrogen-passes}

-- what a record leaves open is never empty
pub proper : (s : List ℕ) → Valid s → Proper (ranges_of s)
unfolding correction_with
proper s valid =
    let b = record-bounded s valid in
    record {
      ordered = λ i. range-ordered (analyte_of (reading_at s i));
      unit = omega arith;
      some = correction-some (sum_ranges_of s) b;
      bracket = correction-ordered (sum_ranges_of s) b;
    }

-- a check of two sums that says of each choice what Holds says
module _ (s : List ℕ) (valid : Valid s) (applies known : Bool) (k : Check) (o : Sound k) {Holds : Choice → Type 0} (same : (c : Choice) → Passes k c ↔ Holds c) where
  abbrev v : ℕ
  v = passes_of k (ranges_of s)

  judged : Judged Choice (Among (ranges_of s)) Holds v
  judged = judged-as same (passes-judged k o (ranges_of s) (proper s valid))

  -- a verdict from 1 to 3 is that of the corners
  own : (n : ℕ) → (0 < n) × (n < 4) → applied applies known v ≡ n → v ≡ n
  own n i e = ((applied-is applies known v n i Iff.rfl).0 e).2

  check-truth : CheckTruth s applies known Holds (applied applies known v)
  check-truth =
      let few : (0 < v) × (v < 4) = judged-few judged in
      let both = applied-is applies known v 3 (omega arith) (says_both judged) in
      record {
        not-applicable = applied-0 applies known v (omega arith);
        missing = applied-4 applies known v (omega arith);
        judged = λ a b. rw (a, b) judged;
        undecided = (λ e. let u = both.0 e in (u.0, u.1, u.2.0, u.2.1), λ e. both.1 (e.0, e.1, (e.2, e.3)));
      }

  module _ (counts : 0 < k.hydrogen) (w : HydrogenAt (ph_of s)) {bounds_at : Choice → Bounds} (are : (c : Choice) → bounds_of k c ≡ bounds_at c) where
    -- 1 and 2 are true of H
    told : (c : Choice) → Values (ranges_of s) c → Tells (AtH (ph_of s) (bounds_at c)) v
    told c a =
        rw (are c) at (passes-tells k o counts (ranges_of s) (proper s valid) (ph_of s) w.ordered c a (located (ph_of s) w (is_whole (ph_of s)) refl))

    hydrogen-truth : HydrogenTruth s Holds bounds_at (applied applies known v)
    hydrogen-truth =
        record {
          bounds = λ c a. Iff.trans (Iff.symm (same c)) (rw (are c) at (passes-bounds k c a.divides));
          within = λ e c a. (told c a).within (own 1 (omega arith) e);
          outside = λ e c a. (told c a).outside (own 2 (omega arith) e);
        }

-- the verdict of the plain sum is that of document 01's inequality without y²
pub plain-judged : (s : List ℕ) → Valid s → ions_known s ≡ true → Judged Choice (Among (ranges_of s)) (PlainConductingIn s) (plain_verdict s)
plain-judged s valid k =
    let M : ℕ = conductivity_limit (conductivity_of s) in
    let t : ℕ = alkalinity_of s in
    let CM : ℕ = measured_of (conductivity_of s) in
    let c = conductivity-limit (conductivity_of s) in
    (check-truth s valid true (ions_known s) (plain_check M t CM) (conductivity-sound M t CM c false) (plain_passes M t CM c)).judged refl k

pub truth : (s : List ℕ) → Valid s → Truth s (verdicts_of s)
truth s valid =
    let w : HydrogenAt (ph_of s) = hydrogen-at (ph_of s) valid.ph.0 valid.ph.1 in
    let L : ℕ = balance_limit (conductivity_of s) in
    let M : ℕ = conductivity_limit (conductivity_of s) in
    let t : ℕ = alkalinity_of s in
    let CM : ℕ = measured_of (conductivity_of s) in
    let b = balance-limit (conductivity_of s) in
    let c = conductivity-limit (conductivity_of s) in
    let b-sound : Sound (balance_check L t) = balance-sound L t b in
    let c-sound : Sound (conductivity_check M t CM) = conductivity-sound M t CM c true in
    record {
      balance = check-truth s valid (balance_applies_to s) (ions_known s) (balance_check L t) b-sound (balance-passes L t b);
      conductivity = check-truth s valid true (ions_known s) (conductivity_check M t CM) c-sound (conductivity-passes M t CM c);
      ratio = check-truth s valid (ratio_applies_to s) (ratio_known s) sodium_chloride_check ratio-sound ratio-passes;
      nitrogen = check-truth s valid (nitrogen_applies_to s) (nitrogen_known s) nitrogen_check nitrogen-sound nitrogen-passes;
      balance_at_h =
          hydrogen-truth s valid (balance_applies_to s) (ions_known s) (balance_check L t) b-sound (balance-passes L t b) (omega arith) w (balance-bounds L t b);
      conductivity_at_h =
          hydrogen-truth s valid true (ions_known s) (conductivity_check M t CM) c-sound (conductivity-passes M t CM c) (omega arith) w (conductivity-bounds M t CM c);
      activity = activity-truth s valid;
      choice = a-choice nitrogen_check nitrogen-sound (ranges_of s) (proper s valid);
    }
