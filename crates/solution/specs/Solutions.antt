-- Document 01, 'Charge and conductance' and 'The four checks', and document 02 (v) and (vi): what a record holds in solution, as
-- the sums that the checks compare and the ionic strength.
use Rattle.std.specs.Prelude.{Bool, cond, List, ℕ, ◌+◌, ◌*◌, ◌^◌}
use Rattle.hydrogen.specs.Floors.{is_whole, floor_at}
use Rattle.reading.specs.Analytes.{present, analyte_of, AmountRange, range_of}
use Rattle.record.specs.Record.{ions, readings, ammonium, sodium, nitrate, chloride, total_nitrogen, ph_of, conductivity_of, alkalinity_of, reading_at, all_below}
use Rattle.solution.specs.declared.Sums.{Sums as SumsHeld}
use Rattle.solution.specs.Ions.{cation_charge, anion_charge, conducted, strength_added, hydrogen_conductance, hydrogen_charge_number, alkalinity_charge, alkalinity_conductance, alkalinity_charge_number, sum}

-- ---- what a record leaves open: each amount from its least to its greatest, and hydrogen
abbrev pub range_at : List ℕ → ℕ → AmountRange
range_at s i = range_of (analyte_of (reading_at s i))

abbrev pub least_at : List ℕ → ℕ → ℕ
least_at s i = (range_at s i).least

abbrev pub greatest_at : List ℕ → ℕ → ℕ
greatest_at s i = (range_at s i).most

-- how far hydrogen may be above its floor, in u: 0 where it is its floor, at a whole pH, else up to 1
abbrev pub gap : Bool → ℕ
gap whole = cond whole 0 1

-- ---- the sums
-- 'the sum over all ten rows', document 01's CE and the plain sum of document 02 (v): what alkalinity t conducts
abbrev pub alkalinity_conducts : ℕ → ℕ
alkalinity_conducts t = alkalinity_conductance * alkalinity_charge t

-- 'CM the measured value', in 10^−13 µS/cm, of tenths of µS/cm
abbrev pub measured_unit : ℕ
measured_unit = 10 ^ 12

abbrev pub measured_of : ℕ → ℕ
measured_of measured = measured * measured_unit

-- every sum that a check compares with another, and the ionic strength
pub record Sums : Type 0 where
  pub cations : ℕ
  pub anions : ℕ
  -- the plain sum: document 01's CE, which document 02 (v) multiplies by y² before it is compared
  pub calculated : ℕ
  pub measured : ℕ
  -- in halves of 10^−15 mol/L
  pub strength : ℕ
  pub sodium : ℕ
  pub chloride : ℕ
  pub mineral : ℕ
  pub total : ℕ

-- by the amounts, hydrogen in u, and alkalinity and measured conductivity in tenths.
-- 'Cat is H plus the next five rows, An the last four', 'CE is the sum over all ten rows, CM the measured value', 'the ratio of
-- charges' of Na and Cl, 'TN is at least NO3-N plus NH4-N, in amounts'. Document 02 (v): the ionic strength is 'half the sum, over
-- all ten rows, of equivalents per litre times the ion's charge'; a u is 10^−15 equivalents per litre, so the sum itself is the
-- strength in halves
abbrev pub sums_with : (ℕ → ℕ) → ℕ → ℕ → ℕ → Sums
sums_with amount hydrogen t m =
    record {
      cations = hydrogen + sum (λ i. cation_charge i * amount i) readings;
      anions = alkalinity_charge t + sum (λ i. anion_charge i * amount i) readings;
      calculated = hydrogen_conductance * hydrogen + (alkalinity_conducts t + sum (λ i. conducted i * amount i) readings);
      measured = measured_of m;
      strength = hydrogen_charge_number * hydrogen + (alkalinity_charge_number * alkalinity_charge t + sum (λ i. strength_added i * amount i) readings);
      sodium = cation_charge sodium * amount sodium;
      chloride = anion_charge chloride * amount chloride;
      mineral = amount nitrate + amount ammonium;
      total = amount total_nitrogen;
    }

-- whether no ion is missing and whether hydrogen is its floor; and each sum at its least, with the least amounts and hydrogen at
-- its floor, and at its greatest, with the greatest amounts and hydrogen the gap above its floor
pub record SumRanges : Type 0 where
  pub known : Bool
  pub whole : Bool
  pub least : Sums
  pub most : Sums

-- by which readings are there, their least and greatest amounts, the floor of hydrogen and whether hydrogen is it, and alkalinity
-- and measured conductivity in tenths
abbrev pub sum_ranges_with : (ℕ → Bool) → (ℕ → ℕ) → (ℕ → ℕ) → ℕ → Bool → ℕ → ℕ → SumRanges
sum_ranges_with there least greatest floor whole t m =
    record {
      known = all_below there ions;
      whole = whole;
      least = sums_with least floor t m;
      most = sums_with greatest (floor + gap whole) t m;
    }

-- of a record with a floor of hydrogen, and with its own
abbrev pub sum_ranges_at : List ℕ → ℕ → SumRanges
sum_ranges_at s floor =
    sum_ranges_with (λ i. present (reading_at s i)) (least_at s) (greatest_at s) floor (is_whole (ph_of s)) (alkalinity_of s) (conductivity_of s)

abbrev pub sum_ranges_of : List ℕ → SumRanges
sum_ranges_of s = sum_ranges_at s (floor_at (ph_of s))

-- none of 'the eight ions' is missing
abbrev pub ions_known : List ℕ → Bool
ions_known s = (sum_ranges_of s).known

-- ---- what was answered
abbrev pub sums_in : SumsHeld → Sums
sums_in x =
    record {
      cations = x.cations.0;
      anions = x.anions.0;
      calculated = x.calculated.0;
      measured = x.measured.0;
      strength = x.strength.0;
      sodium = x.ratio.sodium.0;
      chloride = x.ratio.chloride.0;
      mineral = x.nitrogen.mineral.0;
      total = x.nitrogen.total.0;
    }

-- of the two ends of a solution's sums
abbrev pub ends_in : Bool → Bool → SumsHeld → SumsHeld → SumRanges
ends_in known whole least most = record { known = known; whole = whole; least = sums_in least; most = sums_in most }
