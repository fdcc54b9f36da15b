-- A tenth cut to a whole number bounds a difference as ten times the difference is bounded.
use mathlib.Core.Path.{◌≡◌}
use Prim.Native.Nat.{ℕ, ◌*◌, ◌/◌, ◌≤◌}
use native.Mathlib.Decide.{dec_le}
use native.Mathlib.Omega.{arith}
use lib.Dec.{leb}
use borrow.Author.Tests.{le-leb, lt-leb}

pub tenth : (a m : ℕ) → leb a (m / 10) ≡ leb (10 * a) m
tenth a m = go (dec_le (10 * a) m)
  where
    go : Dec (10 * a ≤ m) → leb a (m / 10) ≡ leb (10 * a) m
    go (yes h) = rw (le-leb a (m / 10) (omega arith), le-leb (10 * a) m h)
    go (no h) = rw (lt-leb a (m / 10) (omega arith), lt-leb (10 * a) m (omega arith))
