-- Whether an element is among those used, as a search of the charts tells it.
use mathlib.Core.Path.{◌≡◌, refl, ap}
use mathlib.Core.Bool.{Bool, ◌||◌}
use mathlib.Core.List.{List, [], ◌∷◌}
use Prim.Native.Nat.{ℕ}
use lib.Dec.{eqb}
use Rattle.std.specs.List.{list_any}
use Rattle.chart_section.specs.declared.columns.ChartSignal.{ChartSignal}
use Rattle.chart_section.specs.ChartSection.{member}
use Rattle.chart_section.specs.Columns.{elements_in}

pub member-any : (e : ℕ) (used : List ChartSignal) → list_any (λ (c : ChartSignal). eqb c.element e) used ≡ member e (elements_in used)
unfolding member
member-any e [] = refl
member-any e (c ∷ used) = ap (λ (b : Bool). eqb c.element e || b) (member-any e used)
