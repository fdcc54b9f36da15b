-- Records whose verdict changes with a finer reading: one rain, with chloride or total nitrogen read anew.
use mathlib.Core.Path.{◌≡◌, refl, sym, ap, ◌∙◌}
use mathlib.Core.List.{List, [], ◌∷◌}
use Prim.Native.Nat.{ℕ, zero, suc, ◌≤◌, ◌<◌}
use native.Mathlib.Nat.{le_refl}
use native.Mathlib.Omega.{arith}
use lib.Dec.{lit≤}
use lib.Ieee.{binary32, of_bits}
use Rattle.refusal.specs.Outcome.Outcome.{given}
use Rattle.reading.specs.declared.Reading.TheVariants.{Measured, Below}
use Rattle.reading.specs.declared.Analyte.{Analyte}
use Rattle.reading.specs.Ranges.{in_range}
use Rattle.reading.specs.Readings.{missing_from, measured_from, below_from, reading_of}
use Rattle.reading.specs.Amounts.{nearest, value_mass, value_amount}
use Rattle.reading.specs.Analytes.{mass_of, analyte_of, range_of}
use Rattle.reading.specs.Finer.{Finer}
use Rattle.reading.proofs.FinerProofs.{finer-laws}
use Rattle.record.specs.Record.{ammonium, sodium, nitrate, chloride, total_nitrogen, organic_carbon, sample_number, kind_of, read_at, reading_at, all_below, accepted, accepted_rest}
use Rattle.record.proofs.AcceptedLaws.{accepted-given}
use Rattle.solution.specs.Ions.{cation_factor, anion_factor}
use Rattle.solution.specs.Solutions.{sum_ranges_of}
use Rattle.judge.specs.Verdicts.{applied}
use Rattle.judge.specs.Corners.{decided}
use Rattle.judge.specs.Ratios.{sodium_chloride_of, ratio_applies_to, ratio_known, nitrogen_of, nitrogen_applies_to, nitrogen_known}
use Rattle.judge.specs.Judgements.{Four, verdicts_of}
use Rattle.judge.specs.ByValue.{ratio_in, nitrogen_in}
use Rattle.judge.specs.Repeats.{acceptance_of}
use Rattle.judge.specs.Finer.{ChlorideHasZero, Becomes, Changes}
use Rattle.judge.proofs.RereadLaws.{reread, reread-finer}
use Rattle.judge.proofs.HandedLaws.{ratio-corners, nitrogen-corners}
use Rattle.judge.proofs.JudgeLaws.{judged}

-- ---- a bulk sample with nitrate of 0.5 mg/L, and chloride and total nitrogen below 1 mg/L: by the two words of its sodium
abbrev quarter : ℕ
quarter = 0x3E80_0000

abbrev half : ℕ
half = 0x3F00_0000

abbrev one : ℕ
one = 0x3F80_0000

abbrev rain : ℕ → ℕ → List ℕ
rain mark bits =
    0 ∷ 1 ∷ 2 ∷ 500 ∷ 200 ∷ 0
    ∷ 1 ∷ 0 ∷ 1 ∷ 0 ∷ 1 ∷ 0 ∷ mark ∷ bits ∷ 1 ∷ 0
    ∷ 1 ∷ 0 ∷ 1 ∷ half ∷ 2 ∷ one ∷ 2 ∷ one ∷ 0 ∷ 0 ∷ []

has-zero : (mark bits : ℕ) → ChlorideHasZero (rain mark bits)
unfolding read_at reading_at reading_of below_from in_range of_bits mass_of value_amount value_mass nearest range_of
has-zero mark bits = (refl, (lit≤ tt, lit≤ tt))

-- ---- reading i of a record, read anew: one of the verdicts before and after, by sums that can be computed. Hydrogen has no part in them
abbrev Accepted : List ℕ → Type 0
Accepted s = acceptance_of s ≡ given tt

module _ (verdict : Four → ℕ) (by_sums : List ℕ → ℕ) (same : (s : List ℕ) → verdict (verdicts_of s) ≡ by_sums s) (i : ℕ) (l : i < organic_carbon) where
  becomes : (m n : ℕ) (s : List ℕ) (mark bits : ℕ) → Accepted s → Accepted (reread s i mark bits)
      → Finer (reading_at s i) (reading_at (reread s i mark bits) i) → by_sums s ≡ m → by_sums (reread s i mark bits) ≡ n → Becomes verdict m n
  unfolding acceptance_of
  becomes m n s mark bits a b f was is =
      let new : List ℕ = reread s i mark bits in
      record {
        old = s;
        new = new;
        finer = reread-finer s i mark bits l f;
        verdicts = verdicts_of s;
        verdicts_finer = verdicts_of new;
        judged = judged s (accepted-given s (given tt) tt a).0;
        judged_finer = judged new (accepted-given new (given tt) tt b).0;
        was = same s ∙ was;
        is = same new ∙ is;
      }

abbrev at : List ℕ → ℕ → Analyte
at s i = analyte_of (reading_at s i)

abbrev ratio_by_sums : List ℕ → ℕ
ratio_by_sums s = ratio_in (kind_of s) (at s sodium) (at s chloride) (sum_ranges_of s)

ratio-by-sums : (s : List ℕ) → sodium_chloride_of s ≡ ratio_by_sums s
unfolding ratio_in
ratio-by-sums s = ap (applied (ratio_applies_to s) (ratio_known s)) (sym (ratio-corners s))

ratio-becomes : (n : ℕ) (s : List ℕ) (mark bits : ℕ) → Accepted s → Accepted (reread s chloride mark bits)
    → Finer (reading_at s chloride) (reading_at (reread s chloride mark bits) chloride) → ratio_by_sums s ≡ 0 → ratio_by_sums (reread s chloride mark bits) ≡ n
    → ChlorideHasZero s → (b : Becomes (λ v. v.ratio) 0 n) × ChlorideHasZero b.old
unfolding becomes
ratio-becomes n s mark bits a b f was is has = (becomes (λ v. v.ratio) ratio_by_sums ratio-by-sums chloride (omega arith) 0 n s mark bits a b f was is, has)

abbrev nitrogen_by_sums : List ℕ → ℕ
nitrogen_by_sums s = nitrogen_in (at s total_nitrogen) (at s nitrate) (at s ammonium) (sum_ranges_of s)

nitrogen-by-sums : (s : List ℕ) → nitrogen_of s ≡ nitrogen_by_sums s
unfolding nitrogen_in
nitrogen-by-sums s = ap (applied (nitrogen_applies_to s) (nitrogen_known s)) (sym (nitrogen-corners s))

nitrogen-becomes : (n : ℕ) (s : List ℕ) (mark bits : ℕ) → Accepted s → Accepted (reread s total_nitrogen mark bits)
    → Finer (reading_at s total_nitrogen) (reading_at (reread s total_nitrogen mark bits) total_nitrogen)
    → nitrogen_by_sums s ≡ 3 → nitrogen_by_sums (reread s total_nitrogen mark bits) ≡ n → Becomes (λ v. v.nitrogen) 3 n
nitrogen-becomes = becomes (λ v. v.nitrogen) nitrogen_by_sums nitrogen-by-sums total_nitrogen (omega arith) 3

-- ---- a reading below 1 mg/L, read anew: with a lower limit of 0.5 mg/L; measured as 1 mg/L, the limit itself, and as 0.25
lower : Finer (Below (of_bits binary32 one)) (Below (of_bits binary32 half))
unfolding of_bits
lower = Finer.lower (of_bits binary32 one) (of_bits binary32 half) (lit≤ tt)

at-limit : Finer (Below (of_bits binary32 one)) (Measured (of_bits binary32 one))
unfolding in_range of_bits
at-limit = finer-laws.at-most-limit (of_bits binary32 one) (of_bits binary32 one) refl refl (le_refl _)

under-limit : Finer (Below (of_bits binary32 one)) (Measured (of_bits binary32 quarter))
unfolding in_range of_bits
under-limit = finer-laws.at-most-limit (of_bits binary32 one) (of_bits binary32 quarter) refl refl (lit≤ tt)

-- ---- the changes
pub changes : Changes
unfolding acceptance_of accepted accepted_rest sample_number all_below read_at reading_at reading_of missing_from measured_from below_from in_range of_bits mass_of value_amount value_mass nearest range_of cation_factor anion_factor decided ratio_in nitrogen_in
changes =
    record {
      ratio = λ n l. ratio n (omega (arith, l));
      within = nitrogen-becomes 1 (rain 0 0) 1 one refl refl at-limit refl refl;
      outside = nitrogen-becomes 2 (rain 0 0) 1 quarter refl refl under-limit refl refl;
    }
  where
    -- sodium is measured as 0.5 mg/L, then below 1 mg/L, then missing
    ratio : (n : ℕ) → n ≤ 4 → (b : Becomes (λ v. v.ratio) 0 n) × ChlorideHasZero b.old
    ratio zero l = ratio-becomes 0 (rain 1 half) 2 half refl refl lower refl refl (has-zero 1 half)
    ratio (suc zero) l = ratio-becomes 1 (rain 1 half) 1 one refl refl at-limit refl refl (has-zero 1 half)
    ratio (suc (suc zero)) l = ratio-becomes 2 (rain 1 half) 1 quarter refl refl under-limit refl refl (has-zero 1 half)
    ratio (suc (suc (suc zero))) l = ratio-becomes 3 (rain 2 one) 1 one refl refl at-limit refl refl (has-zero 2 one)
    ratio (suc (suc (suc (suc zero)))) l = ratio-becomes 4 (rain 0 0) 1 one refl refl at-limit refl refl (has-zero 0 0)
    ratio (suc (suc (suc (suc (suc n))))) l = absurd (omega arith)
