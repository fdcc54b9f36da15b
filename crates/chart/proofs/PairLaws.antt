-- Rule 2 as the code tests it: a value beyond 2, and a partner one or two places before it.
use mathlib.Core.Path.{◌≡◌, refl}
use mathlib.Core.Bool.{Bool, true, false, ◌&&◌, ◌||◌, and-true, and-false, or-false}
use mathlib.Core.List.{List}
use Prim.Native.Nat.{ℕ, ◌-◌, ◌*◌}
use native.Mathlib.Omega.{arith}
use lib.Dec.{leb}
use lib.ListN.{get_or}
use borrow.Author.Tests.{ltb-true}
use Rattle.chart.specs.Values.{every}
use Rattle.chart.specs.Setups.{SetupTerms, beyond, on_side}
use Rattle.chart.specs.Setups.Side.{Above, Below}
use Rattle.chart.specs.Rules.{beyond_two, beyond_two_before, pair_on, pair_beyond_two}
use Rattle.chart.specs.Steps.{has_partner}

-- the values one and two places before it, and whether there is such a place
module _ (f : SetupTerms) (v w : ℕ) (one two : Bool) where
  -- of a value that is above or below, and beyond 2 or not
  abbrev Same : Bool → Bool → Bool → Type 0
  Same above below far =
      (((above && far) && ((one && (on_side f Above v && beyond f 2 v)) || (two && (on_side f Above w && beyond f 2 w))))
      || ((below && far) && ((one && (on_side f Below v && beyond f 2 v)) || (two && (on_side f Below w && beyond f 2 w)))))
      ≡ (far
      && ((one && (((above && (on_side f Above v && true)) || (below && (on_side f Below v && true))) && beyond f 2 v))
      || (two && (((above && (on_side f Above w && true)) || (below && (on_side f Below w && true))) && beyond f 2 w))))

  -- a value has one side at most
  same : (above below far : Bool) → (above ≡ true → below ≡ true → ⊥) → Same above below far
  same true true far h = absurd (h refl refl)
  same true false far h = simp (and-true, or-false)
  same false true far h = simp and-true
  same false false far h = simp and-false

pub pair_is : (f : SetupTerms) (l : List ℕ) (i : ℕ)
    → pair_beyond_two f l i ≡ (beyond f 2 (get_or l i 0) && (has_partner f l i 1 || has_partner f l i 2))
unfolding pair_beyond_two pair_on beyond_two beyond_two_before has_partner every
pair_is f l i =
    let v = get_or l i 0 in
    same f (get_or l (i - 1) 0) (get_or l (i - 2) 0) (leb 1 i) (leb 2 i) (on_side f Above v) (on_side f Below v) (beyond f 2 v)
    (λ above below. omega (arith, ltb-true f.S (f.n * v) above, ltb-true (f.n * v) f.S below))
