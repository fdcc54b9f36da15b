-- What other crates cite: the bracket where it is given and where not, how its ends stand, and what is true of it.
use mathlib.Core.Path.{◌≡◌}
use mathlib.Core.Bool.{or-true}
use mathlib.Core.Logic.{◌⊎◌, ⊎_elim}
use Prim.Native.Nat.{ℕ, ◌+◌, ◌≤◌, ◌<◌}
use native.Mathlib.Nat.{le_trans}
use native.Mathlib.Omega.{arith}
use lib.Dec.{ltb}
use borrow.Author.Tests.{lt-ltb, le-ltb}
use Rattle.std.specs.Prelude.{None}
use Rattle.activity.specs.Strength.{strongest, lower_root, upper_root}
use Rattle.activity.specs.Exponent.{lower_exponent, upper_exponent}
use Rattle.activity.specs.Floors.{floor_at}
use Rattle.activity.specs.Brackets.{between, unit, lower_end, upper_end, correction_of}
use Rattle.activity.specs.Truth.{Holds, Bracketed}
use Rattle.activity.specs.Steps.{table_length}
use Rattle.activity.proofs.RootLaws.{lower-root, upper-root, roots-ordered, lower-root-grows, upper-root-grows, lower-root-small, upper-root-small}
use Rattle.activity.proofs.Grows.{growing}
use Rattle.activity.proofs.ExponentLaws.{lower-exponent, upper-exponent, lower-exponent-grows, upper-exponent-grows, exponents-ordered, upper-exponent-small}
use Rattle.activity.proofs.FloorLaws.{floor-of-power, floor-falls, floor-most, floor-positive}
use Rattle.activity.proofs.Sound as sound

pub bracket-given : (least greatest : ℕ) → least ≤ strongest → greatest ≤ strongest
    → correction_of least greatest ≡ between (lower_end greatest) (upper_end least)
unfolding correction_of
bracket-given least greatest l g = rw (le-ltb strongest least l, le-ltb strongest greatest g)

pub bracket-none : (least greatest : ℕ) → (strongest < least) ⊎ (strongest < greatest) → correction_of least greatest ≡ None
unfolding correction_of
bracket-none least greatest =
    ⊎_elim (λ l. rw (lt-ltb strongest least l)) (λ g. rw (lt-ltb strongest greatest g, or-true (ltb strongest least)))

-- the lower end is above 0
pub lower-positive : (greatest : ℕ) → greatest ≤ strongest → 0 < lower_end greatest
unfolding lower_end
lower-positive greatest g =
    let small : upper_exponent (upper_root greatest) < table_length = upper-exponent-small (upper_root greatest) (upper-root-small greatest g) in
    floor-positive (upper_exponent (upper_root greatest)) (omega arith)

-- the ends are in order: the exponent of the greatest strength is not below that of the least
floors-ordered : (least greatest : ℕ) → least ≤ greatest → greatest ≤ strongest
    → floor_at (upper_exponent (upper_root greatest)) ≤ floor_at (lower_exponent (lower_root least))
floors-ordered least greatest l g =
    let roots : lower_root least ≤ upper_root greatest = le_trans (lower-root-grows l) (roots-ordered greatest) in
    floor-falls
    (le_trans (lower-exponent-grows (lower_root least) (upper_root greatest) roots (upper-root-small greatest g))
    (exponents-ordered (upper_root greatest)))

pub ends-ordered : (least greatest : ℕ) → least ≤ greatest → greatest ≤ strongest → lower_end greatest ≤ upper_end least
unfolding lower_end upper_end
ends-ordered least greatest l g = omega (arith, floors-ordered least greatest l g)

-- no end is above 10^9 + 1
pub lower-most : (greatest : ℕ) → lower_end greatest ≤ unit + 1
unfolding lower_end
lower-most greatest = omega (arith, floor-most (upper_exponent (upper_root greatest)))

pub upper-most : (least : ℕ) → upper_end least ≤ unit + 1
unfolding upper_end
upper-most least = omega (arith, floor-most (lower_exponent (lower_root least)))

-- both fall as the strength grows, so a narrower range of strengths gives a narrower bracket
pub lower-falls : {a b : ℕ} → a ≤ b → b ≤ strongest → lower_end b ≤ lower_end a
unfolding lower_end
lower-falls {a} {b} l s = floor-falls (upper-exponent-grows (upper_root a) (upper_root b) (upper-root-grows l) (upper-root-small b s))

pub upper-falls : {a b : ℕ} → a ≤ b → b ≤ strongest → upper_end b ≤ upper_end a
unfolding upper_end
upper-falls {a} {b} l s =
    let falls : floor_at (lower_exponent (lower_root b)) ≤ floor_at (lower_exponent (lower_root a)) =
    floor-falls (lower-exponent-grows (lower_root a) (lower_root b) (lower-root-grows l) (lower-root-small b s)) in
    omega arith

-- 10^9 y² lies between them
pub bracket-holds : (least greatest : ℕ) → least ≤ strongest → greatest ≤ strongest → Holds least greatest
bracket-holds = sound.bracket-holds

-- all that `bracket` promises
pub bracketed : (least greatest : ℕ) → Bracketed least greatest
bracketed least greatest =
    record {
      named = record {
        lower-s = lower-root least;
        upper-s = upper-root greatest;
        lower-e = lower-exponent (lower_root least);
        upper-e = upper-exponent (upper_root greatest);
        floor = floor-of-power;
      };
      growing = growing;
      holds = bracket-holds least greatest;
      usable = λ l g. record {
        positive = lower-positive greatest g;
        ordered = ends-ordered least greatest l g;
        lower-room = lower-most greatest;
        upper-room = upper-most least;
      };
      narrows = λ g least' greatest' l m n. record {
        over = lower-falls n g;
        under = upper-falls l (le_trans m (le_trans n g));
      };
    }
