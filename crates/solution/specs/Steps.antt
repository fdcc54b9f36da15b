-- The code's own form, which a reader of the promises can pass over: what its parts say, and the facts that the arithmetic here and
-- of the checks rests on.
use Rattle.std.specs.Prelude.{◌≡◌, Bool, List, ℕ, ◌+◌, ◌*◌, ◌%◌, ◌^◌, ◌≤◌, ◌<◌}
use Rattle.hydrogen.specs.Floors.{most_floor}
use Rattle.reading.specs.declared.Analyte.{Analyte}
use Rattle.reading.specs.Amounts.{most_mass}
use Rattle.record.specs.Record.{readings, ammonium, sodium, nitrate, chloride, total_nitrogen, most_conductivity, most_alkalinity}
use Rattle.record.specs.Tested.{Fields}
use Rattle.solution.specs.declared.Nitrogen.{Nitrogen}
use Rattle.solution.specs.declared.SodiumChloride.{SodiumChloride}
use Rattle.solution.specs.declared.ions.Row.{Row}
use Rattle.solution.specs.declared.ions.Ion.{Ion}
use Rattle.solution.specs.declared.ions.Eight.{Eight}
use Rattle.solution.specs.Ions.{cation_factor, anion_factor, conductance, charge_number, cation_charge, anion_charge, conducted, strength_added, sum}
use Rattle.solution.specs.Solutions.{measured_unit, Sums, sums_with, SumRanges}
use Rattle.solution.specs.ByValue.{amount_at}

-- ---- the ranges as facts. Hydrogen is at most the whole number after the greatest floor
abbrev pub most_hydrogen : ℕ
most_hydrogen = most_floor + 1

pub record Small (analytes : List Analyte) : Type 0 where
  pub most : (greatest : Bool) (i : ℕ) → i < readings → amount_at greatest analytes i ≤ most_mass

pub record Ranged (f : Fields) (h : ℕ) : Type 0 where
  pub hydrogen : h ≤ most_hydrogen
  pub measured : f.conductivity ≤ most_conductivity
  pub alkalinity : f.alkalinity ≤ most_alkalinity
  pub small : Small f.analytes

-- ---- the row of ion i, what an amount m of it adds, and the sums of the eight at one end
pub record RowOf (i : ℕ) (x : Row) : Type 0 where
  pub cation : x.cation ≡ cation_factor i
  pub anion : x.anion ≡ anion_factor i
  pub conductance : x.conductance ≡ conductance i
  pub number : x.number ≡ charge_number i

pub record Adds (i m : ℕ) (x : Ion) : Type 0 where
  pub cation : x.cation.0 ≡ cation_charge i * m
  pub anion : x.anion.0 ≡ anion_charge i * m
  pub conductivity : x.conductivity.0 ≡ conducted i * m
  pub strength : x.strength.0 ≡ strength_added i * m

pub record IonSums (greatest : Bool) (analytes : List Analyte) (x : Eight) : Type 0 where
  pub cations : x.cations.0 ≡ sum (λ i. cation_charge i * amount_at greatest analytes i) readings
  pub anions : x.anions.0 ≡ sum (λ i. anion_charge i * amount_at greatest analytes i) readings
  pub conductivity : x.conductivity.0 ≡ sum (λ i. conducted i * amount_at greatest analytes i) readings

-- the sums of two readings that a check compares
pub record RatioOf (greatest : Bool) (analytes : List Analyte) (x : SodiumChloride) : Type 0 where
  pub sodium : x.sodium.0 ≡ cation_charge sodium * amount_at greatest analytes sodium
  pub chloride : x.chloride.0 ≡ anion_charge chloride * amount_at greatest analytes chloride

pub record NitrogenOf (greatest : Bool) (analytes : List Analyte) (x : Nitrogen) : Type 0 where
  pub mineral : x.mineral.0 ≡ amount_at greatest analytes nitrate + amount_at greatest analytes ammonium
  pub total : x.total.0 ≡ amount_at greatest analytes total_nitrogen

-- ---- how large the sums can be: no sum of x is above that of y; the sums of the greatest fields; and that no record has greater ones
pub record AtMost (x y : Sums) : Type 0 where
  pub cations : x.cations ≤ y.cations
  pub anions : x.anions ≤ y.anions
  pub calculated : x.calculated ≤ y.calculated
  pub measured : x.measured ≤ y.measured
  pub strength : x.strength ≤ y.strength
  pub sodium : x.sodium ≤ y.sodium
  pub chloride : x.chloride ≤ y.chloride
  pub mineral : x.mineral ≤ y.mineral
  pub total : x.total ≤ y.total

abbrev pub most_sums : Sums
most_sums = sums_with (λ i. most_mass) most_hydrogen most_alkalinity most_conductivity

pub record Bounded (x : SumRanges) : Type 0 where
  pub ordered : AtMost x.least x.most
  pub most : AtMost x.most most_sums
  -- a measured conductivity is a whole number of tenths of a µS/cm
  pub least_tenths : x.least.measured % measured_unit ≡ 0
  pub most_tenths : x.most.measured % measured_unit ≡ 0

-- the sums fit 64 bits
pub record Fits (x : Sums) : Type 0 where
  pub charges : x.cations + x.anions < 2 ^ 64
  pub calculated : x.calculated < 2 ^ 64
  pub strength : x.strength < 2 ^ 64
