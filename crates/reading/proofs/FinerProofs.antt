-- The laws of a finer reading: amounts rise with the float, so a lower limit has no greater range, and a float of at most the limit
-- is in it.
use mathlib.Core.Path.{◌≡◌, refl, sym}
use mathlib.Core.Bool.{true}
use Prim.Native.Nat.{◌*◌, ◌≤◌}
use native.Mathlib.Nat.{mul-le-mul_left}
use native.Mathlib.Omega.{arith}
use lib.Ieee.{Float}
use lib.Ieee.Positive.{num, den, den_pos}
use Rattle.reading.specs.declared.Reading.{Reading}
use Rattle.reading.specs.declared.Reading.TheVariants.{Measured, Below}
use Rattle.reading.specs.Ranges.{is_value}
use Rattle.reading.specs.Readings.{InRange}
use Rattle.reading.specs.Amounts.{per_milligram, value_mass}
use Rattle.reading.specs.Analytes.{present, mass_of, limit_of, analyte_of, range_of}
use Rattle.reading.specs.Finer.{FloatAtMost, Finer, NarrowerRange, FinerLaws}
use Rattle.reading.proofs.RangeLaws.{limit-value}
use Rattle.reading.proofs.NearestLaws.{nearest-rises}
use Rattle.reading.proofs.AnalyteLaws.{measured-mass}
use Rattle.reading.proofs.AmountRangeLaws.{amount-range-laws}

-- a greater value has no smaller amount
mass-rises : (x y : Float) → is_value x ≡ true → is_value y ≡ true → FloatAtMost y x → mass_of (Measured y) ≤ mass_of (Measured x)
unfolding value_mass
mass-rises x y h k l =
    rw (sym (measured-mass y k), sym (measured-mass x h))
    (nearest-rises (per_milligram * num y) (den y) (per_milligram * num x) (den x) (den_pos y) (den_pos x) (omega (arith, mul-le-mul_left per_milligram l)))

lower-limit : (x y : Float) → InRange (Below x) → InRange (Below y) → FloatAtMost y x → limit_of (Below y) ≤ limit_of (Below x)
lower-limit x y h k l = mass-rises x y (limit-value x h) (limit-value y k) l

at-most-limit : (x y : Float) → InRange (Below x) → InRange (Measured y) → FloatAtMost y x → Finer (Below x) (Measured y)
unfolding range_of
at-most-limit x y h k l = Finer.inside x y (omega arith, omega (arith, mass-rises x y (limit-value x h) k l))

there : (old new : Reading) → Finer old new → present new ≡ present old
there old new (Finer.same _) = refl
there old new (Finer.lower x y l) = refl
there old new (Finer.inside x y m) = refl

narrower : (old new : Reading) → InRange old → InRange new → Finer old new → NarrowerRange (range_of (analyte_of old)) (range_of (analyte_of new))
unfolding range_of
narrower old new h k (Finer.same _) = record { least = omega arith; most = omega arith }
narrower old new h k (Finer.lower x y l) = record { least = omega arith; most = lower-limit x y h k l }
narrower old new h k (Finer.inside x y m) = record { least = omega (arith, m.0); most = omega (arith, m.1) }

pub finer-laws : FinerLaws
finer-laws = record { there = there; narrower = narrower; lower-limit = lower-limit; at-most-limit = at-most-limit }

-- what every range promises, whatever its reading
pub ruleset range_promises = (amount-range-laws, finer-laws)
