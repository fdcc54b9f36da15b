-- Document 01, 'Conductivity', and document 02 (v); over what (vi) leaves open (`Choices`).
use Rattle.std.specs.Prelude.{Bool, true, false, cond, List, ℕ, ◌+◌, ◌-◌, ◌*◌, ◌≤◌, leb}
use Rattle.std.proofs.Math.IntN.{sub_ℕ}
use Rattle.refusal.specs.Differences.{apart}
use Rattle.record.specs.Record.{conductivity_of, alkalinity_of, readings}
use Rattle.solution.specs.Ions.{conducted, strength_added, hydrogen_conductance, hydrogen_charge_number, alkalinity_charge, alkalinity_charge_number, sum}
use Rattle.solution.specs.Solutions.{ions_known, alkalinity_conducts, measured_of}
use Rattle.judge.specs.declared.window.Window.{Window}
use Rattle.judge.specs.Classes.{low_conductivity, medium_conductivity, percent}
use Rattle.judge.specs.Choices.{Ranges, Choice}
use Rattle.judge.specs.Verdicts.{applied}
use Rattle.judge.specs.AtHydrogen.{Bounds}
use Rattle.judge.specs.Corners.{fraction, Check, passes_of}
use Rattle.judge.specs.Ranges.{ranges_of}

-- 'M is 30 up to 10.0, 20 up to 20.0, 10 above', by tenths of µS/cm
unfoldable pub conductivity_limit : ℕ → ℕ
conductivity_limit measured = cond (leb measured low_conductivity) 30 (cond (leb measured medium_conductivity) 20 10)

-- 'the plain sum', 'over all ten rows': of a choice, with alkalinity t and divisor times
abbrev pub others_conduct : ℕ → Choice → ℕ
others_conduct t c = alkalinity_conducts t * c.divisor + sum (λ i. conducted i * c.amount i) readings

abbrev pub plain_sum : ℕ → Choice → ℕ
plain_sum t c = hydrogen_conductance * c.hydrogen + others_conduct t c

-- '100 times the difference of CE and CM, its sign dropped, is at most M × CM', with document 02's 'CE = y² × the plain sum'
pub record Conducting (M t CM : ℕ) (c : Choice) : Type 0 where
  pub holds : percent * apart (c.correction * plain_sum t c) (c.correction_divisor * (CM * c.divisor)) ≤ M * (c.correction_divisor * (CM * c.divisor))

-- the same as a window of the ratio CE / CM
abbrev pub conductivity_window : ℕ → Window
conductivity_window M = record { low = fraction (percent - M) percent; high = fraction (percent + M) percent }

-- of the plain sum, times y² or not
abbrev pub sum_check : Bool → ℕ → ℕ → ℕ → Check
sum_check corrected M t CM =
    record {
      hydrogen = hydrogen_conductance;
      corrected = corrected;
      first = record { fixed = alkalinity_conducts t; weight = conducted };
      second = record { fixed = CM; weight = λ i. 0 };
      window = conductivity_window M;
    }

abbrev pub conductivity_check : ℕ → ℕ → ℕ → Check
conductivity_check = sum_check true

abbrev pub plain_check : ℕ → ℕ → ℕ → Check
plain_check = sum_check false

-- 'all kinds'; 'needs the eight ions': over the ranges that a record leaves open
abbrev pub conductivity_over : (ℕ → ℕ → ℕ → Check) → List ℕ → Ranges → ℕ
conductivity_over check s r = applied true (ions_known s) (passes_of (check (conductivity_limit (conductivity_of s)) (alkalinity_of s) (measured_of (conductivity_of s))) r)

abbrev pub conductivity_verdict : List ℕ → ℕ
conductivity_verdict s = conductivity_over conductivity_check s (ranges_of s)

-- ---- ionic strength
-- of a choice, with alkalinity t and divisor times, in halves of 10^−15 mol/L: 'half the sum, over all ten rows, of equivalents per litre times
-- the ion's charge'
abbrev pub strength_of : ℕ → Choice → ℕ
strength_of t c = hydrogen_charge_number * c.hydrogen + (alkalinity_charge_number * alkalinity_charge t * c.divisor + sum (λ i. strength_added i * c.amount i) readings)

-- ---- document 01's check, without y²: '01's cases 13 to 16 stay proved of the plain sum'. It goes over the ranges of (vi) as every check
-- does; the readings of these cases are all measured
-- '100 times the difference of CE and CM, its sign dropped, is at most M × CM', CE the plain sum
pub record PlainConducting (M t CM : ℕ) (c : Choice) : Type 0 where
  pub holds : percent * apart (plain_sum t c) (CM * c.divisor) ≤ M * (CM * c.divisor)

abbrev pub PlainConductingIn : List ℕ → Choice → Type 0
PlainConductingIn s = PlainConducting (conductivity_limit (conductivity_of s)) (alkalinity_of s) (measured_of (conductivity_of s))

abbrev pub plain_verdict : List ℕ → ℕ
plain_verdict s = conductivity_over plain_check s (ranges_of s)

-- ---- truth at H
-- a greatest and a least fraction for H: at a choice of amounts and of y² as Y / D, with E what all but hydrogen conducts, divisor
-- times, ((100 + M) D CM divisor − 100 Y E) / (100 Y × 3500 divisor) and ((100 − M) D CM divisor − 100 Y E) / (100 Y × 3500 divisor)
abbrev pub conductivity_bounds : ℕ → ℕ → ℕ → Choice → Bounds
conductivity_bounds M t CM c =
    record {
      most = sub_ℕ ((percent + M) * (c.correction_divisor * (CM * c.divisor))) (percent * (c.correction * others_conduct t c));
      most_per = percent * (c.correction * hydrogen_conductance) * c.divisor;
      least = sub_ℕ ((percent - M) * (c.correction_divisor * (CM * c.divisor))) (percent * (c.correction * others_conduct t c));
      least_per = percent * (c.correction * hydrogen_conductance) * c.divisor;
    }
