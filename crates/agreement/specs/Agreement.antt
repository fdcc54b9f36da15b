-- Document 01, 'The docket': when two records agree.
use Rattle.std.specs.Prelude.{Bool, false, cond, not, List, ℕ, ◌*◌, max, leb}
use Rattle.refusal.specs.Outcome.{Outcome}
use Rattle.refusal.specs.Outcome.Outcome.{given}
use Rattle.reading.specs.declared.Reading.{Reading}
use Rattle.reading.specs.Analytes.{present, mass_of}
use Rattle.record.specs.Record.{ph_of, conductivity_of, alkalinity_of, ions, reading_at, all_below, accepted}
use Rattle.refusal.specs.Differences.{apart}

-- 'p differs by at most 10'
unfoldable pub ph_agrees : ℕ → ℕ → Bool
ph_agrees p q = leb (apart p q) 10

-- 'ten times the difference is at most the larger'
unfoldable pub agrees_by : ℕ → ℕ → Bool
agrees_by x y = leb (10 * apart x y) (max x y)

-- 'missing agrees only with missing'; else by amounts, a below reading's being that of half its limit: document 02 (vi), 'docket agreement
-- still use the half'
unfoldable pub reading_agrees : Reading → Reading → Bool
reading_agrees r q = cond (present r) (cond (present q) (agrees_by (mass_of r) (mass_of q)) false) (not (present q))

abbrev pub ion_agrees : List ℕ → List ℕ → ℕ → Bool
ion_agrees s t i = reading_agrees (reading_at s i) (reading_at t i)

-- 'p differs by at most 10 and conductivity, alkalinity and each of the eight ions' amounts differ by at most a tenth of the larger'
unfoldable pub agrees : List ℕ → List ℕ → Bool
agrees s t =
    cond (ph_agrees (ph_of s) (ph_of t))
    (cond (agrees_by (conductivity_of s) (conductivity_of t))
    (cond (agrees_by (alkalinity_of s) (alkalinity_of t)) (all_below (ion_agrees s t) ions) false)
    false)
    false

-- of any two slices: the first is tested, then the second
unfoldable pub agreement_of : List ℕ → List ℕ → Outcome Bool
agreement_of s t = accepted s (accepted t (given (agrees s t)))
