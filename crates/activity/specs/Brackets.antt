-- Document 02 (v): the bracket of 10^9 y², from the least and the greatest strength of a water.
use Rattle.std.specs.Prelude.{cond, ◌||◌, ℕ, ◌+◌, ◌^◌, ltb, Option, Some, None}
use Rattle.activity.specs.declared.Correction.{Correction}
use Rattle.activity.specs.Strength.{strongest, lower_root, upper_root}
use Rattle.activity.specs.Exponent.{lower_exponent, upper_exponent}
use Rattle.activity.specs.Floors.{places, floor_at}

-- 10^9 y² where y² is 1
abbrev pub unit : ℕ
unit = 10 ^ places

-- 'the whole-number floor of 10^(9 − upper e)', of the greatest strength
unfoldable pub lower_end : ℕ → ℕ
lower_end greatest = floor_at (upper_exponent (upper_root greatest))

-- 'the floor of 10^(9 − lower e) plus 1', of the least strength
unfoldable pub upper_end : ℕ → ℕ
upper_end least = floor_at (lower_exponent (lower_root least)) + 1

-- '10^9 y² lies between' the two, 'both included'; none is given where a strength is above every record's
abbrev pub between : ℕ → ℕ → Option Correction
between least most = Some (record { least = least; most = most })

unfoldable pub correction_of : ℕ → ℕ → Option Correction
correction_of least greatest = cond (ltb strongest least || ltb strongest greatest) None (between (lower_end greatest) (upper_end least))
