-- Values in order, in a loop through each two neighbours that remembers whether one failed.
use mathlib.Core.Path.{◌≡◌, sym, ◌∙◌}
use mathlib.Core.Bool.{Bool, ◌&&◌, and-true, and_assoc}
use mathlib.Core.List.{List, [], ◌∷◌}
use Prim.Native.Nat.{ℕ, ◌<◌, ◌≤◌}
use native.Mathlib.Omega.{arith}
use lib.ListN.{length, get_or, take, drop}
use Rattle.chart.specs.Rules.{Course, in_step, ordered}

-- what was seen and the order of the values that are left decide
pub record Seen (course : Course) (l rest : List ℕ) (seen : Bool) : Type 0 where
  pub whole : ordered course l ≡ (seen && ordered course rest)

-- two neighbours, the first two of the values that are left
pub one_more : {course : Course} {l : List ℕ} {seen : Bool} (rest : List ℕ) → Seen course l rest seen → 2 ≤ length rest
    → Seen course l (drop 1 rest) (seen && in_step course (get_or (take 2 rest) 0 0) (get_or (take 2 rest) 1 0))
unfolding ordered
one_more [] s h = absurd (omega arith)
one_more (x ∷ []) s h = absurd (omega arith)
one_more {course} {l} {seen} (x ∷ y ∷ rest) s h =
    record { whole = s.whole ∙ sym (and_assoc seen (in_step course x y) (ordered course (y ∷ rest))) }

pub all_seen : {course : Course} {l : List ℕ} {seen : Bool} (rest : List ℕ) → Seen course l rest seen → length rest < 2 → ordered course l ≡ seen
unfolding ordered
all_seen {seen = seen} [] s h = s.whole ∙ and-true seen
all_seen {seen = seen} (x ∷ []) s h = s.whole ∙ and-true seen
all_seen (x ∷ y ∷ rest) s h = absurd (omega arith)
