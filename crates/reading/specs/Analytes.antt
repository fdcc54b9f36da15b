-- Document 01, 'A reading', and document 02 (vi): a reading of a record with its amount, as the checks and the comparison of two
-- records look at it.
use Rattle.std.specs.Prelude.{Bool, true, false, ℕ, ◌≤◌}
use Rattle.refusal.specs.Outcome.{Outcome}
use Rattle.refusal.specs.Outcome.Outcome.{given, refused}
use Rattle.reading.specs.declared.Reading.{Reading}
use Rattle.reading.specs.declared.Reading.TheVariants.{Missing, Measured, Below}
use Rattle.reading.specs.declared.Analyte.{Analyte}
use Rattle.reading.specs.declared.MassRange.{MassRange}
use Rattle.reading.specs.Readings.{reading_of}
use Rattle.reading.specs.Amounts.{most_mass, Amount, amount_of}

-- 'one of three: missing, measured .., or below ..': the last two are there
abbrev pub present : Reading → Bool
present Missing = false
present (Measured x) = true
present (Below x) = true

-- the amount of a reading in tenths of a µg/L, 0 where it has none
abbrev pub mass_in : Outcome Amount → ℕ
mass_in (given Amount.missing) = 0
mass_in (given (Amount.mass m)) = m
mass_in (refused n) = 0

unfoldable pub mass_of : Reading → ℕ
mass_of r = mass_in (amount_of r)

-- the amount of a below reading's limit itself: what the same float has as a measured value. Any other reading has no limit
abbrev pub limit_of : Reading → ℕ
limit_of Missing = 0
limit_of (Measured x) = 0
limit_of (Below x) = mass_of (Measured x)

-- a reading with its amount, and that of its limit
abbrev pub analyte_of : Reading → Analyte
analyte_of r = record { reading = r; mass = record { 0 = mass_of r }; limit = record { 0 = limit_of r } }

unfoldable pub with_amount : Outcome Reading → Outcome Analyte
with_amount (given r) = given (analyte_of r)
with_amount (refused n) = refused n

-- the reading that two words of a record hold, with its amount; refused where they hold none
unfoldable pub analyte_from : ℕ → ℕ → Outcome Analyte
analyte_from mark bits = with_amount (reading_of mark bits)

-- what the checks take a reading for: every amount from a least to a greatest one, in tenths of a µg/L, both included
pub record AmountRange : Type 0 where
  pub least : ℕ
  pub most : ℕ

-- document 02 (vi): 'a below reading now stands for every fraction from 0 to its limit's amount, both included'; any other for its
-- amount
abbrev pub range_from : Reading → ℕ → ℕ → AmountRange
range_from Missing amount limit = record { least = amount; most = amount }
range_from (Measured x) amount limit = record { least = amount; most = amount }
range_from (Below x) amount limit = record { least = 0; most = limit }

-- `solution` and `judge` know this definition by `AmountRangeLaws` and `FinerLaws` alone, but for examples that compute
unfoldable pub range_of : Analyte → AmountRange
range_of a = range_from a.reading a.mass.0 a.limit.0

-- an amount m is in a range
abbrev pub Has : AmountRange → ℕ → Type 0
Has r m = (r.least ≤ m) × (m ≤ r.most)

-- what the definition of a range is worth
pub record AmountRangeLaws : Type 0 where
  -- of any analyte, also one made by hand, it has an amount
  pub ordered : (a : Analyte) → (range_of a).least ≤ (range_of a).most
  -- of one whose amounts are its reading's, it has the reading's amount (of a below reading that of half its limit), and none above
  -- that of 200 mg/L
  pub own : (r : Reading) → Has (range_of (analyte_of r)) (mass_of r)
  pub most : (r : Reading) → (range_of (analyte_of r)).most ≤ most_mass

-- what was answered
abbrev pub range_in : MassRange → AmountRange
range_in r = record { least = r.least.0; most = r.most.0 }
