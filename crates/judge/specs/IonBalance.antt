-- Document 01, 'Ion balance', and document 02 (i) for the DOC line; over what (vi) leaves open (`Choices`).
use Rattle.std.specs.Prelude.{Bool, false, cond, ◌&&◌, ◌||◌, List, ℕ, ◌+◌, ◌-◌, ◌*◌, ◌≤◌, leb, ltb, eqb}
use Rattle.std.proofs.Math.IntN.{sub_ℕ}
use Rattle.refusal.specs.Differences.{apart}
use Rattle.reading.specs.Amounts.{per_milligram}
use Rattle.reading.specs.Analytes.{present}
use Rattle.record.specs.Record.{kind_of, conductivity_of, alkalinity_of, readings, reading_at, mass_at, organic_carbon}
use Rattle.solution.specs.Ions.{cation_charge, anion_charge, alkalinity_charge, sum}
use Rattle.solution.specs.Solutions.{ions_known}
use Rattle.judge.specs.declared.window.Window.{Window}
use Rattle.judge.specs.Classes.{wet_only, bulk, runoff, medium_conductivity, percent_of_mean}
use Rattle.judge.specs.Choices.{Ranges, Choice}
use Rattle.judge.specs.Verdicts.{applied}
use Rattle.judge.specs.AtHydrogen.{Bounds}
use Rattle.judge.specs.Corners.{fraction, Check, passes_of}
use Rattle.judge.specs.Ranges.{ranges_of}

-- document 02 (i): 'The DOC line at 5 mg/L is 50,000', in tenths of a µg/L
abbrev pub carbon_line : ℕ
carbon_line = 5 * per_milligram

-- 'kinds 1 and 2, and kind 5 with DOC present and below' that line. Document 02 (vi): 'The DOC line of runoff and docket agreement still use
-- the half', which is a below reading's amount
unfoldable pub balance_applies : ℕ → Bool → ℕ → Bool
balance_applies kind carbon_present carbon = (eqb kind wet_only || eqb kind bulk) || (eqb kind runoff && (carbon_present && ltb carbon carbon_line))

abbrev pub balance_applies_to : List ℕ → Bool
balance_applies_to s = balance_applies (kind_of s) (present (reading_at s organic_carbon)) (mass_at s organic_carbon)

-- 'L is 20 up to a measured 20.0 µS/cm, above that 10', by tenths of µS/cm
unfoldable pub balance_limit : ℕ → ℕ
balance_limit measured = cond (leb measured medium_conductivity) 20 10

-- 'Cat is H plus the next five rows, An the last four', of a choice and divisor times, with alkalinity t
abbrev pub other_cations : Choice → ℕ
other_cations c = sum (λ i. cation_charge i * c.amount i) readings

abbrev pub cations : Choice → ℕ
cations c = c.hydrogen + other_cations c

abbrev pub anions : ℕ → Choice → ℕ
anions t c = alkalinity_charge t * c.divisor + sum (λ i. anion_charge i * c.amount i) readings

-- '200 times the difference of Cat and An, its sign dropped, is at most L × (Cat + An)'
pub record Balanced (L t : ℕ) (c : Choice) : Type 0 where
  pub holds : percent_of_mean * apart (cations c) (anions t c) ≤ L * (cations c + anions t c)

-- the same as a window of the ratio Cat / An
abbrev pub balance_window : ℕ → Window
balance_window L = record { low = fraction (percent_of_mean - L) (percent_of_mean + L); high = fraction (percent_of_mean + L) (percent_of_mean - L) }

abbrev pub balance_check : ℕ → ℕ → Check
balance_check L t =
    record {
      hydrogen = 1;
      corrected = false;
      first = record { fixed = 0; weight = cation_charge };
      second = record { fixed = alkalinity_charge t; weight = anion_charge };
      window = balance_window L;
    }

-- 'needs the eight ions': over the ranges that a record leaves open
abbrev pub ion_balance_over : List ℕ → Ranges → ℕ
ion_balance_over s r = applied (balance_applies_to s) (ions_known s) (passes_of (balance_check (balance_limit (conductivity_of s)) (alkalinity_of s)) r)

abbrev pub ion_balance_of : List ℕ → ℕ
ion_balance_of s = ion_balance_over s (ranges_of s)

-- 'the inequality sets a greatest and a least fraction for H': at a choice of amounts with C the cations but hydrogen and A the anions,
-- divisor times, ((200 + L) A − (200 − L) C) / ((200 − L) divisor) and ((200 − L) A − (200 + L) C) / ((200 + L) divisor)
abbrev pub balance_bounds : ℕ → ℕ → Choice → Bounds
balance_bounds L t c =
    record {
      most = sub_ℕ ((percent_of_mean + L) * anions t c) ((percent_of_mean - L) * other_cations c);
      most_per = (percent_of_mean - L) * c.divisor;
      least = sub_ℕ ((percent_of_mean - L) * anions t c) ((percent_of_mean + L) * other_cations c);
      least_per = (percent_of_mean + L) * c.divisor;
    }
