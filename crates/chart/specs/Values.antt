-- Document 01, 'Charts', and document 02 (i): how many values a chart may have and how great they may be, and the refusals of those
-- that it may not.
use Rattle.std.specs.Prelude.{Bool, true, ◌&&◌, List, [], ◌∷◌, ℕ, leb, length}
use Rattle.refusal.specs.Outcome.{Outcome, demand}
use Rattle.refusal.specs.Outcome.Outcome.{given}
use Rattle.refusal.specs.Numbers.{number_of}
use Rattle.refusal.specs.declared.Refusal.TheVariants as refusal

-- a test passes at every value of a list
unfoldable pub every : (ℕ → Bool) → List ℕ → Bool
every f [] = true
every f (v ∷ values) = f v && every f values

-- document 02 (i): 'Chart values are in tenths too, 0 to 2,000,000', tenths of a µg/L
abbrev pub greatest_value : ℕ
greatest_value = 2_000_000

abbrev pub is_value : ℕ → Bool
is_value v = leb v greatest_value

abbrev pub all_values : List ℕ → Bool
all_values values = every is_value values

-- '10 to 64 setup values, then 0 to 64 later ones'
abbrev pub least_setup : ℕ
least_setup = 10

abbrev pub most_setup : ℕ
most_setup = 64

abbrev pub most_later : ℕ
most_later = 64

unfoldable pub counts_fit : ℕ → ℕ → Bool
counts_fit setup later = leb least_setup setup && (leb setup most_setup && leb later most_later)

-- 'a chart alone, two slices without an element, 9, 10, 13': the tests 9 and 10, and then the rest
unfoldable pub tested : {A : Type 0} → List ℕ → List ℕ → Outcome A → Outcome A
tested setup later rest =
    demand (counts_fit (length setup) (length later)) (number_of refusal.Count)
    (demand (all_values setup && all_values later) (number_of refusal.Chart)
    rest)

-- the two tests alone: nothing is given but that both pass
unfoldable pub test_of : List ℕ → List ℕ → Outcome (Unit {0})
test_of setup later = tested setup later (given tt)
