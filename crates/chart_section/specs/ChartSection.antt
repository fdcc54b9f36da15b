-- Document 01, 'A batch': what the words of its charts say, charts as values; or the first refusal, in the order that document 01
-- gives: 'A batch is read from the front, each part whole (else 8) before its tests: a section's count 9; a chart's first three
-- words, element 10, then counts 9; its values 10'.
use Rattle.std.specs.Prelude.{Bool, false, ◌&&◌, ◌||◌, not, List, [], ◌∷◌, ◌++◌, map, ℕ, ◌+◌, eqb, length, get_or, take, drop}
use Rattle.refusal.specs.Outcome.{demand}
use Rattle.refusal.specs.Numbers.{number_of}
use Rattle.refusal.specs.declared.Refusal.TheVariants as refusal
use Rattle.record.specs.Record.{is_element}
use Rattle.chart.specs.Values.{most_setup, most_later, counts_fit, all_values}
use Rattle.chart.specs.Charts.{last_word}
use Rattle.words.specs.FromFront.{Read, taken, whole, section}

pub record Chart : Type 0 where
  pub element : ℕ
  pub setup : List ℕ
  pub later : List ℕ

-- 'charts (0 to 10 ..)'
abbrev pub most_charts : ℕ
most_charts = 10

-- ---- a chart: 'element 1 to 10 in reading order, setup count, later count, values'

abbrev pub elements_of : List Chart → List ℕ
elements_of cs = map (λ (c : Chart). c.element) cs

unfoldable pub member : ℕ → List ℕ → Bool
member e [] = false
member e (x ∷ xs) = eqb x e || member e xs

-- the values of a chart of the element e, so many of each, at the front of the words s
unfoldable pub values_of : ℕ → ℕ → ℕ → List ℕ → Read Chart
values_of e setup later s =
    whole (setup + later) s
    (demand (all_values (take (setup + later) s)) (number_of refusal.Chart)
    (taken (record { element = e; setup = take setup s; later = take later (drop setup s) }) (drop (setup + later) s)))

-- 'a chart's element out of range or repeated': used are the elements before it
abbrev pub is_new_element : List ℕ → ℕ → Bool
is_new_element used e = is_element e && not (member e used)

unfoldable pub chart_with : List ℕ → ℕ → ℕ → ℕ → List ℕ → Read Chart
chart_with used e setup later s =
    demand (is_new_element used e) (number_of refusal.Chart)
    (demand (counts_fit setup later) (number_of refusal.Count)
    (values_of e setup later s))

-- 'a chart's first three words'
abbrev pub head_words : ℕ
head_words = 3

-- the words of a chart that has the most values of both sorts
abbrev pub most_chart : ℕ
most_chart = head_words + (most_setup + most_later)

unfoldable pub chart_of : List ℕ → List ℕ → Read Chart
chart_of used s = whole head_words s (chart_with used (get_or s 0 0) (get_or s 1 0) (get_or s 2 0) (drop head_words s))

-- no element is repeated
abbrev pub charts_of : List ℕ → Read (List Chart)
charts_of s = section most_charts (λ before. chart_of (elements_of before)) s

-- ---- what the charts say

-- the signal at the last later value. 'A chart without later values has no signal': its word is 0
abbrev pub signal_of : Chart → ℕ
signal_of c = last_word c.setup c.later

abbrev pub signals_in : List Chart → List ℕ
signals_in cs = map signal_of cs

-- ---- the words of a chart that is given as a value: 'element .., setup count, later count, values'

abbrev pub chart_words : Chart → List ℕ
chart_words c = c.element ∷ length c.setup ∷ length c.later ∷ (c.setup ++ c.later)
