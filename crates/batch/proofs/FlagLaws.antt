-- The flag: a search of what the charts tell, and that against the charts themselves.
use mathlib.Core.Path.{◌≡◌, refl, ap}
use mathlib.Core.Bool.{Bool, ◌&&◌, ◌||◌, not}
use mathlib.Core.List.{List, [], ◌∷◌, map}
use Prim.Native.Nat.{ℕ}
use lib.Dec.{eqb}
use Rattle.std.specs.List.{list_any}
use Rattle.record.specs.Record.{has_reading}
use Rattle.chart_section.specs.declared.columns.ChartSignal.{ChartSignal}
use Rattle.chart_section.specs.ChartSection.{Chart}
use Rattle.chart_section.proofs.Laws.{signal_told}
use Rattle.batch.specs.Rows.{flagged}
use Rattle.batch.specs.Steps.{flagged_by}

-- whether a chart flags what has its element
abbrev pub flags : (ℕ → Bool) → ChartSignal → Bool
flags has c = not (eqb c.signal 0) && has c.element

pub flag-any : (has : ℕ → Bool) (cs : List ChartSignal) → list_any (flags has) cs ≡ flagged_by cs has
unfolding flagged_by
flag-any has [] = refl
flag-any has (c ∷ cs) = ap (λ (b : Bool). flags has c || b) (flag-any has cs)

-- what tells the same of each element flags the same
pub flag-alike : (cs : List ChartSignal) (f g : ℕ → Bool) → ((e : ℕ) → f e ≡ g e) → flagged_by cs f ≡ flagged_by cs g
unfolding flagged_by
flag-alike [] f g h = refl
flag-alike (c ∷ cs) f g h = rw (h c.element, flag-alike cs f g h)

-- the flag by what the charts tell is the flag by the charts
pub flag_same : (cs : List Chart) (w : List ℕ) → flagged_by (map signal_told cs) (has_reading w) ≡ flagged cs w
unfolding flagged_by flagged
flag_same [] w = refl
flag_same (c ∷ cs) w = rw (flag_same cs w)
