-- Document 02 (iii), 'Runs of one day joined': the charts of two batches as one list, and the tests that they must pass.
use Rattle.std.specs.Prelude.{Bool, true, false, ◌&&◌, cond, List, [], ◌∷◌, ◌++◌, map, ℕ, ◌+◌, eqb, leb, length}
use Rattle.refusal.specs.Outcome.{Outcome, demand}
use Rattle.refusal.specs.Numbers.{number_of}
use Rattle.refusal.specs.declared.Refusal.TheVariants as refusal
use Rattle.chart.specs.Values.{most_later}
use Rattle.chart_section.specs.ChartSection.{Chart}

-- ---- 'a chart in both'

-- what a chart is found by in the other batch: its element
abbrev pub key_of : Chart → ℕ
key_of c = c.element

-- what the other batch has for it: no chart, or one
pub data Match : Type 0 where
  alone : Match
  both : Chart → Match

unfoldable pub match_in : List Chart → ℕ → Match
match_in [] key = Match.alone
match_in (d ∷ ds) key = cond (eqb (key_of d) key) (Match.both d) (match_in ds key)

-- ---- the joined charts

-- 'its later values are joined, first batch first'
abbrev pub joined_with : Chart → Match → Chart
joined_with c Match.alone = c
joined_with c (Match.both d) = record { element = c.element; setup = c.setup; later = c.later ++ d.later }

abbrev pub joined_chart : List Chart → Chart → Chart
joined_chart second c = joined_with c (match_in second (key_of c))

-- 'those found only in the second': a chart of it, before others, by what the first has for it
abbrev pub unless_matched : Match → Chart → List Chart → List Chart
unless_matched Match.alone d rest = d ∷ rest
unless_matched (Match.both c) d rest = rest

unfoldable pub only_in : List Chart → List Chart → List Chart
only_in first [] = []
only_in first (d ∷ ds) = unless_matched (match_in first (key_of d)) d (only_in first ds)

-- 'Charts of the first come first, then those found only in the second'
abbrev pub joined_charts : List Chart → List Chart → List Chart
joined_charts first second = map (joined_chart second) first ++ only_in first second

-- ---- their tests

-- 'the same setup values in the same order': as many of them too
unfoldable pub same_values : List ℕ → List ℕ → Bool
same_values [] [] = true
same_values [] (y ∷ t) = false
same_values (x ∷ s) [] = false
same_values (x ∷ s) (y ∷ t) = eqb x y && same_values s t

-- '14 setup values differ; 15 joined counts exceed 01's ranges'. A chart that is in one batch alone has passed that batch's tests
abbrev pub tested_with : {A : Type 0} → Chart → Match → Outcome A → Outcome A
tested_with c Match.alone rest = rest
tested_with c (Match.both d) rest =
    demand (same_values c.setup d.setup) (number_of refusal.SetupDiffers)
    (demand (leb (length c.later + length d.later) most_later) (number_of refusal.JoinedCount)
    rest)

-- 'chart by chart in joined order with 14 before 15': those found only in the second have nothing to be tested
unfoldable pub tested_charts : {A : Type 0} → List Chart → List Chart → Outcome A → Outcome A
tested_charts [] second rest = rest
tested_charts (c ∷ cs) second rest = tested_with c (match_in second (key_of c)) (tested_charts cs second rest)
