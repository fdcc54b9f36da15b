-- The rule of the floor computed once over all entries of the code's table, the hundred floors for p from 200 to 299, and the law at each.
use mathlib.Core.Path.{◌≡◌, refl}
use mathlib.Core.Bool.{Bool, true, false, ◌&&◌, ◌||◌, not}
use Prim.Native.Nat.{ℕ, ◌+◌, ◌<◌}
use lib.Dec.{T, leb, ltb, eqb, leb→le, ltb→lt}
use lib.ListN.{get_or}
use lib.Ieee.Fits.{and_l, and_r}
use borrow.Author.Tests.{eq-eqb}
use Rattle.hydrogen.specs.Floors.{least_ph, is_whole, WholePh, hundredth, power, floor_at}
use Rattle.hydrogen.specs.SmallerTable.{table_length}
use Rattle.hydrogen.specs.declared.table.TheConstants.{FLOORS}
use Rattle.refusal.proofs.Tables.{every, at}
use Rattle.hydrogen.proofs.Root.{floor-is}

-- the rule as three tests: x to the hundredth is at most the power of H at p, x + 1 to the hundredth is above it, and the first is equal
-- to it at a whole pH alone
abbrev low : ℕ → ℕ → Bool
low p x = leb (hundredth x) (power p)

abbrev high : ℕ → ℕ → Bool
high p x = ltb (power p) (hundredth (x + 1))

abbrev alone : ℕ → ℕ → Bool
alone p x = is_whole p || not (eqb (hundredth x) (power p))

abbrev right : ℕ → ℕ → Bool
right p x = low p x && (high p x && alone p x)

-- the one computed test, over p from 200 on
tested : T (every right least_ph FLOORS)
unfolding power
tested = tt

unless : (a b : Bool) → T (a || not b) → b ≡ true → a ≡ true
unless true b t e = refl
unless false true t e = absurd t
unless false false t e = e

-- a number that passes the three tests is the floor, and its hundredth power is the power of H at a whole pH alone
module _ (p x : ℕ) (passes : T (right p x)) where
  rest : T (high p x && alone p x)
  rest = and_r (low p x) (high p x && alone p x) passes

  is-floor : floor_at p ≡ x
  is-floor =
      floor-is p x (leb→le (hundredth x) (power p) (and_l (low p x) (high p x && alone p x) passes))
      (ltb→lt (power p) (hundredth (x + 1)) (and_l (high p x) (alone p x) rest))

  is-whole : hundredth x ≡ power p → WholePh p
  is-whole e =
      unless (is_whole p) (eqb (hundredth x) (power p)) (and_r (high p x) (alone p x) rest) (eq-eqb (hundredth x) (power p) e)

module _ (k : ℕ) (u : k < table_length) where
  entry-passes : T (right (least_ph + k) (get_or FLOORS k 0))
  entry-passes = at right FLOORS least_ph tested k u

  -- the entry is the floor
  pub floor-entry : floor_at (least_ph + k) ≡ get_or FLOORS k 0
  floor-entry = is-floor (least_ph + k) (get_or FLOORS k 0) entry-passes

  -- and is exact at a whole pH alone
  pub entry_whole : hundredth (floor_at (least_ph + k)) ≡ power (least_ph + k) → WholePh (least_ph + k)
  entry_whole = rw floor-entry (is-whole (least_ph + k) (get_or FLOORS k 0) entry-passes)
