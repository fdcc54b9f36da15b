-- Document 01, 'Charts': the four rules at the later value of place i, counted from 0, against a setup; and its signal word.
-- 'A rule that needs more earlier later values than there are adds nothing.'
use Rattle.std.specs.Prelude.{Bool, true, ◌&&◌, ◌||◌, cond, List, [], ◌∷◌, ℕ, ◌+◌, ◌-◌, leb, ltb, get_or, take, drop}
use Rattle.chart.specs.Values.{every}
use Rattle.chart.specs.Setups.{SetupTerms, Side, beyond, on_side}
use Rattle.chart.specs.Setups.Side.{Above, Below}

-- ---- '1: beyond 3.'
unfoldable pub beyond_three : SetupTerms → List ℕ → ℕ → Bool
beyond_three f later i = beyond f 3 (get_or later i 0)

-- ---- '2: it, and at least one of the later values one or two places before it, are beyond 2 on the same side (the second later
-- value has one place before it, the first none).'
unfoldable pub beyond_two : SetupTerms → Side → ℕ → Bool
beyond_two f side v = on_side f side v && beyond f 2 v

-- so many places before it; where there is no such place, there is no such value
unfoldable pub beyond_two_before : SetupTerms → Side → List ℕ → ℕ → ℕ → Bool
beyond_two_before f side later i places = leb places i && beyond_two f side (get_or later (i - places) 0)

unfoldable pub pair_on : SetupTerms → Side → List ℕ → ℕ → Bool
pair_on f side later i = beyond_two f side (get_or later i 0) && (beyond_two_before f side later i 1 || beyond_two_before f side later i 2)

unfoldable pub pair_beyond_two : SetupTerms → List ℕ → ℕ → Bool
pair_beyond_two f later i = pair_on f Above later i || pair_on f Below later i

-- ---- 'it and the six later values before it'
abbrev pub earlier : ℕ
earlier = 6

abbrev pub seven : List ℕ → ℕ → List ℕ
seven later i = take (earlier + 1) (drop (i - earlier) later)

-- ---- '4: it and the six later values before it all above, or all below, the mean.'
unfoldable pub seven_on_one_side : SetupTerms → List ℕ → ℕ → Bool
seven_on_one_side f later i = leb earlier i && (every (on_side f Above) (seven later i) || every (on_side f Below) (seven later i))

-- ---- '8: these seven strictly rising, or strictly falling.'
pub data Course : Type 0 where
  Rising : Course
  Falling : Course

abbrev pub in_step : Course → ℕ → ℕ → Bool
in_step Rising x y = ltb x y
in_step Falling x y = ltb y x

unfoldable pub ordered : Course → List ℕ → Bool
ordered course [] = true
ordered course (x ∷ []) = true
ordered course (x ∷ y ∷ values) = in_step course x y && ordered course (y ∷ values)

unfoldable pub seven_in_order : List ℕ → ℕ → Bool
seven_in_order later i = leb earlier i && (ordered Rising (seven later i) || ordered Falling (seven later i))

-- ---- 'A later value's signal word is a sum of the numbers below.'
abbrev pub weight : Bool → ℕ → ℕ
weight met number = cond met number 0

unfoldable pub signal_at : SetupTerms → List ℕ → ℕ → ℕ
signal_at f later i =
    weight (beyond_three f later i) 1
    + weight (pair_beyond_two f later i) 2
    + weight (seven_on_one_side f later i) 4
    + weight (seven_in_order later i) 8
