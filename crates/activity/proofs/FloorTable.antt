-- The rule of the floor computed over all entries of the code's table, the two hundred floors for exponents from 0 to 199 thousandths, and
-- the law at each.
use mathlib.Core.Path.{◌≡◌, subst}
use mathlib.Core.Bool.{Bool, ◌&&◌}
use Prim.Native.Nat.{ℕ, ◌+◌, ◌<◌}
use native.Mathlib.Omega.{arith}
use lib.Dec.{T, leb, ltb, leb→le, ltb→lt}
use lib.ListN.{get_or}
use lib.Ieee.Fits.{and_l, and_r}
use Rattle.activity.specs.Floors.{thousandth_power, power, floor_at}
use Rattle.activity.specs.Steps.{table_length}
use Rattle.activity.specs.declared.table.TheConstants.{FLOORS}
use Rattle.refusal.proofs.Tables.{every, at}
use Rattle.activity.proofs.FloorLaws.{floor-is}

-- the rule as two tests: x to the thousandth is at most the power at n, and x + 1 to the thousandth is above it
abbrev low : ℕ → ℕ → Bool
low n x = leb (thousandth_power x) (power n)

abbrev high : ℕ → ℕ → Bool
high n x = ltb (power n) (thousandth_power (x + 1))

abbrev right : ℕ → ℕ → Bool
right n x = low n x && high n x

-- the one computed test, over exponents from 0 on
tested : T (every right 0 FLOORS)
unfolding power
tested = tt

-- a number that passes the two tests is the floor
is-floor : (n x : ℕ) → T (right n x) → floor_at n ≡ x
is-floor n x passes =
    floor-is n x (leb→le (thousandth_power x) (power n) (and_l (low n x) (high n x) passes))
    (ltb→lt (power n) (thousandth_power (x + 1)) (and_r (low n x) (high n x) passes))

-- so the entry is the floor
pub floor-entry : (n : ℕ) → n < table_length → floor_at n ≡ get_or FLOORS n 0
floor-entry n h =
    let from_zero : 0 + n ≡ n = omega arith in
    is-floor n (get_or FLOORS n 0) (subst (λ (m : ℕ). T (right m (get_or FLOORS n 0))) from_zero (at right FLOORS 0 tested n h))
