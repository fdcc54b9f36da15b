-- The rules of seven, asked of the part of the later values that the code lends.
use mathlib.Core.Path.{◌≡◌, refl}
use mathlib.Core.Bool.{false}
use mathlib.Core.List.{List}
use Prim.Native.Nat.{ℕ, ◌+◌, ◌-◌, ◌≤◌, ◌<◌}
use native.Mathlib.Omega.{arith}
use lib.ListN.{take, drop}
use borrow.Author.Tests.{le-leb, lt-leb}
use Rattle.chart.specs.Setups.{SetupTerms}
use Rattle.chart.specs.Rules.{earlier, seven_on_one_side, seven_in_order}
use Rattle.chart.specs.Steps.{on_one_side, in_order}

module _ (f : SetupTerms) (l : List ℕ) (i : ℕ) where
  abbrev part : List ℕ
  part = take (i + 1 - (i - earlier)) (drop (i - earlier) l)

  pub too-early : i < earlier → (seven_on_one_side f l i ≡ false) × (seven_in_order l i ≡ false)
  unfolding seven_on_one_side seven_in_order
  too-early h = rw (lt-leb earlier i h) (refl, refl)

  pub of_part : earlier ≤ i → (seven_on_one_side f l i ≡ on_one_side f part) × (seven_in_order l i ≡ in_order part)
  unfolding seven_on_one_side seven_in_order
  of_part h =
      let e : i + 1 - (i - earlier) ≡ earlier + 1 = omega arith in
      rw (le-leb earlier i h, e) (refl, refl)
