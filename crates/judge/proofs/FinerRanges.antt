-- What a finer record leaves open is within what the first one did: its readings' ranges are narrower, so its ionic strengths are,
-- and so its bracket of y² is; every other word is the same.
use mathlib.Core.Path.{◌≡◌, refl, ap}
use mathlib.Core.List.{List}
use Prim.Native.Nat.{ℕ, ◌≤◌, ◌<◌}
use native.Mathlib.Decide.{dec_lt}
use native.Mathlib.Omega.{arith}
use lib.ListN.{get_or}
use Rattle.activity.specs.Truth.{Inside}
use Rattle.activity.proofs.Laws.{bracketed}
use Rattle.hydrogen.specs.Floors.{is_whole, floor_at}
use Rattle.reading.specs.Analytes.{present, mass_of}
use Rattle.reading.specs.Finer.{Finer, NarrowerRange}
use Rattle.reading.proofs.FinerProofs.{finer-laws}
use Rattle.record.specs.Record.{ions, readings, organic_carbon, kind_of, ph_of, conductivity_of, alkalinity_of, mark_place, bits_place, read_at, reading_at, mass_at}
use Rattle.record.proofs.AcceptedLaws.{Valid, read-in-range}
use Rattle.record.proofs.AllBelow.{all_same}
use Rattle.solution.specs.Solutions.{SumRanges, range_at, least_at, greatest_at, gap, sum_ranges_of, ions_known}
use Rattle.solution.specs.Steps.{AtMost}
use Rattle.solution.proofs.SolutionLaws.{sums-rise, record-bounded}
use Rattle.judge.specs.Ranges.{correction_with, ranges_of}
use Rattle.judge.specs.Finer.{FinerRecord}
use Rattle.judge.proofs.CorrectionLaws.{weak}
use Rattle.judge.proofs.NarrowerLaws.{Narrower}

module _ (old new : List ℕ) (f : FinerRecord old new) where
  -- ---- what is the same
  head : (j : ℕ) → j < mark_place 0 → get_or new j 0 ≡ get_or old j 0
  head j l = f.others j (λ i b. (λ e. omega arith, λ e. omega arith))

  pub same_kind : kind_of new ≡ kind_of old
  same_kind = head _ (omega arith)

  same-ph : ph_of new ≡ ph_of old
  same-ph = head _ (omega arith)

  pub same-conductivity : conductivity_of new ≡ conductivity_of old
  same-conductivity = head _ (omega arith)

  pub same-alkalinity : alkalinity_of new ≡ alkalinity_of old
  same-alkalinity = head _ (omega arith)

  -- words after the readings are of none either
  after : (j : ℕ) → mark_place readings ≤ j → get_or new j 0 ≡ get_or old j 0
  after j l = f.others j (λ i b. (λ e. omega arith, λ e. omega arith))

  finer-at : (i : ℕ) → Finer (reading_at old i) (reading_at new i)
  unfolding read_at reading_at
  finer-at i = go (dec_lt i readings)
    where
      go : Dec (i < readings) → Finer (reading_at old i) (reading_at new i)
      go (yes l) = f.finer i l
      go (no m) = rw (after (mark_place i) (omega (arith, m)), after (bits_place i) (omega (arith, m))) (Finer.same (reading_at old i))

  pub same-there : (i : ℕ) → present (reading_at new i) ≡ present (reading_at old i)
  same-there i = finer-laws.there (reading_at old i) (reading_at new i) (finer-at i)

  -- DOC has the same amount: the half of its limit, where it is below one
  pub same-carbon : mass_at new organic_carbon ≡ mass_at old organic_carbon
  same-carbon = ap mass_of f.carbon

  pub same_known : ions_known new ≡ ions_known old
  same_known = all_same (λ i. present (reading_at new i)) (λ i. present (reading_at old i)) ions (λ i l. same-there i)

  -- ---- what is narrower
  pub narrower-at : (i : ℕ) → NarrowerRange (range_at old i) (range_at new i)
  narrower-at i = finer-laws.narrower (reading_at old i) (reading_at new i) (read-in-range old i) (read-in-range new i) (finer-at i)

  abbrev x : SumRanges
  x = sum_ranges_of old

  abbrev y : SumRanges
  y = sum_ranges_of new

  least-rises : AtMost x.least y.least
  least-rises =
      sums-rise (least_at old) (least_at new) (λ i l. (narrower-at i).least) _ _ _ _ _ _
      (omega (arith, ap floor_at same-ph)) (omega (arith, same-alkalinity)) (omega (arith, same-conductivity))

  greatest-falls : AtMost y.most x.most
  greatest-falls =
      sums-rise (greatest_at new) (greatest_at old) (λ i l. (narrower-at i).most) _ _ _ _ _ _
      (omega (arith, ap floor_at same-ph, ap (λ (p : ℕ). gap (is_whole p)) same-ph)) (omega (arith, same-alkalinity)) (omega (arith, same-conductivity))

  module _ (v : Valid old) (v' : Valid new) where
    bracket-inside : Inside x.least.strength x.most.strength y.least.strength y.most.strength
    bracket-inside =
        (bracketed x.least.strength x.most.strength).narrows (weak x (record-bounded old v)) y.least.strength y.most.strength
        least-rises.strength (record-bounded new v').ordered.strength greatest-falls.strength

    pub narrower : Narrower (ranges_of old) (ranges_of new)
    unfolding correction_with
    narrower =
        record {
          least = λ i. (narrower-at i).least;
          greatest = λ i. (narrower-at i).most;
          correction = record { least = bracket-inside.over; most = bracket-inside.under; unit = refl };
          floor = ap floor_at same-ph;
          whole = ap is_whole same-ph;
        }
