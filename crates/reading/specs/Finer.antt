-- Document 02 (vii), 'a finer detector': when a second reading is a better one than a first.
use Rattle.std.specs.Prelude.{◌≡◌, ◌*◌, ◌≤◌, Float}
use Rattle.std.specs.Float.Ieee.Positive.{num, den}
use Rattle.reading.specs.declared.Reading.{Reading}
use Rattle.reading.specs.declared.Reading.TheVariants.{Measured, Below}
use Rattle.reading.specs.Readings.{InRange}
use Rattle.reading.specs.Analytes.{present, mass_of, limit_of, analyte_of, AmountRange, range_of, Has}

-- the float y is at most x, both in range, by their exact values: num y / den y ≤ num x / den x
abbrev pub FloatAtMost : Float → Float → Type 0
FloatAtMost y x = num y * den x ≤ num x * den y

-- 'below readings have lower limits or are measured inside the old range'; any other reading is the same, a missing one too
pub data Finer : Reading → Reading → Type 0 where
  same : (r : Reading) → Finer r r
  lower : (x y : Float) → FloatAtMost y x → Finer (Below x) (Below y)
  -- by amounts, which are what a range is of
  inside : (x y : Float) → Has (range_of (analyte_of (Below x))) (mass_of (Measured y)) → Finer (Below x) (Measured y)

-- the second range is inside the first
pub record NarrowerRange (old new : AmountRange) : Type 0 where
  pub least : old.least ≤ new.least
  pub most : new.most ≤ old.most

-- what the definition of a finer reading is worth, of readings in range, as those of a record are
pub record FinerLaws : Type 0 where
  -- it is there where the first one is, and stands for no amount that the first one did not stand for
  pub there : (old new : Reading) → Finer old new → present new ≡ present old
  pub narrower : (old new : Reading) → InRange old → InRange new → Finer old new → NarrowerRange (range_of (analyte_of old)) (range_of (analyte_of new))
  -- a lower limit has no greater amount
  pub lower-limit : (x y : Float) → InRange (Below x) → InRange (Below y) → FloatAtMost y x → limit_of (Below y) ≤ limit_of (Below x)
  -- a measured float of at most the old limit is inside the old range, whatever both are rounded to
  pub at-most-limit : (x y : Float) → InRange (Below x) → InRange (Measured y) → FloatAtMost y x → Finer (Below x) (Measured y)
