-- The range of a reading's amounts: what `solution` and `judge` know of one range. `FinerProofs` is of two.
use mathlib.Core.Path.{◌≡◌, refl, sym}
use mathlib.Core.Bool.{Bool, true, false}
use Prim.Native.Nat.{◌*◌, ◌≤◌}
use native.Mathlib.Nat.{mul-pos}
use native.Mathlib.Omega.{arith}
use lib.Dec.{lit≤, lit<}
use lib.Ieee.{Float}
use lib.Ieee.Positive.{num, den, den_pos}
use Rattle.refusal.specs.Outcome.{Outcome}
use Rattle.refusal.specs.Outcome.Outcome.{given, refused}
use Rattle.reading.specs.declared.Reading.{Reading}
use Rattle.reading.specs.declared.Reading.TheVariants.{Missing, Measured, Below}
use Rattle.reading.specs.declared.Analyte.{Analyte}
use Rattle.reading.specs.Ranges.{is_limit}
use Rattle.reading.specs.Amounts.{most_mass, per_milligram, Amount, value_mass, half_mass, amount_of}
use Rattle.reading.specs.Analytes.{mass_in, mass_of, analyte_of, range_from, range_of, Has, AmountRangeLaws}
use Rattle.reading.proofs.RangeLaws.{limit-value}
use Rattle.reading.proofs.NearestLaws.{nearest-rises}
use Rattle.reading.proofs.AmountProofs.{amount-laws}
use Rattle.reading.proofs.AnalyteLaws.{measured-mass, below-mass, none_below}

-- an amount is at most that of 200 mg/L
mass-most : (r : Reading) → mass_of r ≤ most_mass
unfolding mass_of
mass-most r = go (amount_of r) refl
  where
    go : (a : Outcome Amount) → amount_of r ≡ a → mass_in a ≤ most_mass
    go (given Amount.missing) e = lit≤ tt
    go (given (Amount.mass m)) e = amount-laws.most r m e
    go (refused n) e = lit≤ tt

-- of any analyte, also one made by hand
pub range-ordered : (a : Analyte) → (range_of a).least ≤ (range_of a).most
unfolding range_of
range-ordered a = go a.reading
  where
    go : (r : Reading) → (range_from r a.mass.0 a.limit.0).least ≤ (range_from r a.mass.0 a.limit.0).most
    go Missing = omega arith
    go (Measured x) = omega arith
    go (Below x) = omega arith

-- of one whose amount is its reading's
pub range-most : (r : Reading) → (range_of (analyte_of r)).most ≤ most_mass
unfolding range_of
range-most Missing = mass-most Missing
range-most (Measured x) = mass-most (Measured x)
range-most (Below x) = omega (arith, mass-most (Below x), mass-most (Measured x))

-- the half of a limit has no greater amount than the limit: both are rounded to the nearest
half-under-limit : (x : Float) → mass_of (Below x) ≤ mass_of (Measured x)
unfolding half_mass value_mass
half-under-limit x = go (is_limit x) refl
  where
    go : (b : Bool) → is_limit x ≡ b → mass_of (Below x) ≤ mass_of (Measured x)
    go true h =
        rw (sym (below-mass x h), sym (measured-mass x (limit-value x h)))
        (nearest-rises (per_milligram * num x) (2 * den x) (per_milligram * num x) (den x) (mul-pos (lit< tt) (den_pos x)) (den_pos x) (omega arith))
    go false h = rw (sym (none_below x h)) (omega arith)

own : (r : Reading) → Has (range_of (analyte_of r)) (mass_of r)
unfolding range_of
own Missing = (omega arith, omega arith)
own (Measured x) = (omega arith, omega arith)
own (Below x) = (omega arith, omega (arith, half-under-limit x))

pub amount-range-laws : AmountRangeLaws
amount-range-laws = record { ordered = range-ordered; own = own; most = range-most }
