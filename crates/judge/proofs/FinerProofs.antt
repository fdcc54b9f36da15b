-- A finer record keeps every verdict but an undecided one, and but Na/Cl where chloride may be 0: it leaves fewer choices open, and
-- each check applies to it as to the first.
use mathlib.Core.Path.{◌≡◌, refl}
use mathlib.Core.Bool.{Bool, true, false, and-false}
use mathlib.Core.List.{List}
use Prim.Native.Nat.{ℕ}
use native.Mathlib.Omega.{arith}
use lib.Dec.{leb}
use borrow.Author.Tests.{eq-eqb, ne_eqb}
use Rattle.reading.specs.Analytes.{present}
use Rattle.record.specs.Record.{ammonium, sodium, nitrate, chloride, total_nitrogen, organic_carbon, kind_of, conductivity_of, alkalinity_of, reading_at}
use Rattle.record.proofs.AcceptedLaws.{Valid}
use Rattle.solution.specs.Solutions.{least_at, ions_known, measured_of}
use Rattle.judge.specs.Corners.{Check, passes_of}
use Rattle.judge.specs.Verdicts.{applied}
use Rattle.judge.specs.Ranges.{ranges_of}
use Rattle.judge.specs.Classes.{stemflow}
use Rattle.judge.specs.IonBalance.{balance_applies_to, balance_limit, balance_check, ion_balance_of}
use Rattle.judge.specs.Conductivity.{conductivity_limit, conductivity_check, conductivity_verdict}
use Rattle.judge.specs.Ratios.{ratio_applies, ratio_applies_to, ratio_known, sodium_chloride_check, sodium_chloride_of, nitrogen_applies_to, nitrogen_known, nitrogen_check, nitrogen_of}
use Rattle.judge.specs.Judgements.{verdicts_of}
use Rattle.judge.specs.Finer.{FinerRecord, Kept, ChlorideHasZero, Survives}
use Rattle.judge.proofs.CornerLaws.{Sound}
use Rattle.judge.proofs.LimitLaws.{balance-limit, conductivity-limit}
use Rattle.judge.proofs.BalanceLaws.{balance-sound}
use Rattle.judge.proofs.ConductivityLaws.{conductivity-sound}
use Rattle.judge.proofs.RatioLaws.{ratio-sound, nitrogen-sound}
use Rattle.judge.proofs.TruthProofs.{proper}
use Rattle.judge.proofs.NarrowerLaws.{narrower-among, verdict-kept}
use Rattle.judge.proofs.FinerRanges.{same_kind, same-conductivity, same-alkalinity, same-there, same-carbon, same_known, narrower-at, narrower}

-- Na/Cl does not apply where chloride is there and may be 0
ratio-zero : (s : List ℕ) → ChlorideHasZero s → sodium_chloride_of s ≡ 0
ratio-zero s has = rw (has.0, eq-eqb (least_at s chloride) 0 (omega (arith, has.1.0)), and-false (leb (kind_of s) stemflow))

module _ (old new : List ℕ) (f : FinerRecord old new) where
  -- a chloride that leaves out 0 still does, and a missing one is still missing
  same-applies : (ChlorideHasZero old → ⊥) → ratio_applies_to new ≡ ratio_applies_to old
  same-applies without =
      rw (same_kind old new f, same-there old new f chloride)
      (go (present (reading_at old chloride)) refl)
    where
      go : (p : Bool) → present (reading_at old chloride) ≡ p
          → ratio_applies (kind_of old) p (least_at new chloride) ≡ ratio_applies (kind_of old) p (least_at old chloride)
      go true e =
          let some : least_at old chloride ≡ 0 → ⊥ = λ z. without (e, (omega arith, omega arith)) in
          rw (ne_eqb (least_at old chloride) 0 some, ne_eqb (least_at new chloride) 0 (λ z. some (omega (arith, (narrower-at old new f chloride).least))))
      go false e = refl

  module _ (v : Valid old) (v' : Valid new) where
    kept : (k : Check) → Sound k → (applies known : Bool)
        → Kept (applied applies known (passes_of k (ranges_of old))) (applied applies known (passes_of k (ranges_of new)))
    kept k o = verdict-kept k o (ranges_of old) (ranges_of new) (proper old v) (proper new v') (narrower old new f v v')

    balance-kept : Kept (ion_balance_of old) (ion_balance_of new)
    balance-kept =
        let L : ℕ = balance_limit (conductivity_of old) in
        let t : ℕ = alkalinity_of old in
        rw (same_kind old new f, same-there old new f organic_carbon, same-carbon old new f, same-conductivity old new f, same-alkalinity old new f, same_known old new f)
        (kept (balance_check L t) (balance-sound L t (balance-limit (conductivity_of old))) (balance_applies_to old) (ions_known old))

    conductivity-kept : Kept (conductivity_verdict old) (conductivity_verdict new)
    conductivity-kept =
        let M : ℕ = conductivity_limit (conductivity_of old) in
        let t : ℕ = alkalinity_of old in
        let CM : ℕ = measured_of (conductivity_of old) in
        rw (same-conductivity old new f, same-alkalinity old new f, same_known old new f)
        (kept (conductivity_check M t CM) (conductivity-sound M t CM (conductivity-limit (conductivity_of old)) true) true (ions_known old))

    nitrogen-kept : Kept (nitrogen_of old) (nitrogen_of new)
    nitrogen-kept =
        rw (same-there old new f total_nitrogen, same-there old new f nitrate, same-there old new f ammonium)
        (kept nitrogen_check nitrogen-sound (nitrogen_applies_to old) (nitrogen_known old))

    ratio-kept : (ChlorideHasZero old → ⊥) → Kept (sodium_chloride_of old) (sodium_chloride_of new)
    ratio-kept without =
        rw (same-applies without, same-there old new f chloride, same-there old new f sodium)
        (kept sodium_chloride_check ratio-sound (ratio_applies_to old) (ratio_known old))

    pub survives : Survives old new (verdicts_of old) (verdicts_of new)
    survives =
        record {
          balance = balance-kept;
          conductivity = conductivity-kept;
          ratio = λ without. ratio-kept without;
          ratio_zero = λ has. ratio-zero old has;
          nitrogen = nitrogen-kept;
          choices = narrower-among (ranges_of old) (ranges_of new) (narrower old new f v v');
        }
