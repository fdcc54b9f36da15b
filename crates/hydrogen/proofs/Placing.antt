-- The rule of the floor tells where H stands to it: both sides are compared as fractions over 1.
use mathlib.Core.Path.{sym}
use Prim.Native.Nat.{ℕ}
use native.Mathlib.Nat.{le_of_lt, le_of_eq, not-le_of_lt, mul-one}
use native.Mathlib.Omega.{arith}
use Rattle.hydrogen.specs.Floors.{power}
use Rattle.hydrogen.specs.TrueHydrogen.{FloorRule, Placed}

pub placing : (p h : ℕ) → FloorRule p h → Placed p h
placing p h r =
    record {
      whole = λ w. rw (mul-one (power p)) (r.low, le_of_eq (sym (r.exact.0 w)));
      above = λ n. rw (mul-one (power p)) (r.low, λ e. n (r.exact.1 (omega (arith, r.low))));
      below = rw (mul-one (power p)) (le_of_lt r.high, λ e. not-le_of_lt r.high e);
    }
