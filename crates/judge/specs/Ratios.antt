-- Document 01, 'Na/Cl' and 'Nitrogen': two checks in which hydrogen plays no part. Document 02 (vi): they 'follow the same rule and
-- may now say undecided'.
use Rattle.std.specs.Prelude.{Bool, false, not, ◌&&◌, List, ℕ, ◌+◌, ◌*◌, ◌≤◌, leb, eqb}
use Rattle.reading.specs.Analytes.{present}
use Rattle.record.specs.Record.{kind_of, reading_at, ammonium, sodium, nitrate, chloride, total_nitrogen}
use Rattle.solution.specs.Ions.{cation_charge, anion_charge}
use Rattle.solution.specs.Solutions.{least_at}
use Rattle.judge.specs.declared.window.Window.{Window}
use Rattle.judge.specs.Classes.{stemflow}
use Rattle.judge.specs.Choices.{Choice}
use Rattle.judge.specs.Verdicts.{applied}
use Rattle.judge.specs.Corners.{fraction, only, Check, passes_of}
use Rattle.judge.specs.Ranges.{ranges_of}

-- ---- Na/Cl
-- 'kinds 1 to 4, unless Cl is present with amount 0', and document 02 (vi): 'a chlorine range that contains 0 makes Na/Cl not
-- applicable'. By the kind, whether Cl is there, and the least amount that it stands for: no amount is below 0, so a range contains
-- 0 where it begins there
abbrev pub ratio_applies : ℕ → Bool → ℕ → Bool
ratio_applies kind has_chloride least_chloride = leb kind stemflow && not (has_chloride && eqb least_chloride 0)

abbrev pub ratio_applies_to : List ℕ → Bool
ratio_applies_to s = ratio_applies (kind_of s) (present (reading_at s chloride)) (least_at s chloride)

-- 'Cl missing gives 4'; 'needs both'
abbrev pub ratio_known : List ℕ → Bool
ratio_known s = present (reading_at s chloride) && present (reading_at s sodium)

-- the charges of sodium and chloride, of a choice and divisor times
abbrev pub sodium_charge : Choice → ℕ
sodium_charge c = cation_charge sodium * c.amount sodium

abbrev pub chloride_charge : Choice → ℕ
chloride_charge c = anion_charge chloride * c.amount chloride

-- 'the ratio of charges is from 0.5 to 1.5, ends included', both sides taken twice
pub record SodiumChloride (c : Choice) : Type 0 where
  pub low : chloride_charge c ≤ 2 * sodium_charge c
  pub high : 2 * sodium_charge c ≤ 3 * chloride_charge c

-- the same as a window of the ratio
abbrev pub sodium_chloride_window : Window
sodium_chloride_window = record { low = fraction 1 2; high = fraction 3 2 }

abbrev pub sodium_chloride_check : Check
sodium_chloride_check =
    record {
      hydrogen = 0;
      corrected = false;
      first = record { fixed = 0; weight = only sodium (cation_charge sodium) };
      second = record { fixed = 0; weight = only chloride (anion_charge chloride) };
      window = sodium_chloride_window;
    }

abbrev pub sodium_chloride_of : List ℕ → ℕ
sodium_chloride_of s = applied (ratio_applies_to s) (ratio_known s) (passes_of sodium_chloride_check (ranges_of s))

-- ---- nitrogen
-- 'all kinds with TN present'; 'needs both'
abbrev pub nitrogen_applies_to : List ℕ → Bool
nitrogen_applies_to s = present (reading_at s total_nitrogen)

abbrev pub nitrogen_known : List ℕ → Bool
nitrogen_known s = present (reading_at s nitrate) && present (reading_at s ammonium)

-- 'TN is at least NO3-N plus NH4-N, in amounts', of a choice and divisor times
pub record Nitrogen (c : Choice) : Type 0 where
  pub holds : c.amount nitrate + c.amount ammonium ≤ c.amount total_nitrogen

-- the same as a window: their ratio to TN is at most 1
abbrev pub nitrogen_window : Window
nitrogen_window = record { low = fraction 0 1; high = fraction 1 1 }

abbrev pub nitrogen_check : Check
nitrogen_check =
    record {
      hydrogen = 0;
      corrected = false;
      first = record { fixed = 0; weight = λ i. only nitrate 1 i + only ammonium 1 i };
      second = record { fixed = 0; weight = only total_nitrogen 1 };
      window = nitrogen_window;
    }

abbrev pub nitrogen_of : List ℕ → ℕ
nitrogen_of s = applied (nitrogen_applies_to s) (nitrogen_known s) (passes_of nitrogen_check (ranges_of s))
