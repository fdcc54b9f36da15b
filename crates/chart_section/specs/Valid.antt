-- Document 01, 'A batch': charts that are given as values and pass their tests.
use Rattle.std.specs.Prelude.{◌≡◌, true, List, [], ℕ, ◌≤◌, length}
use Rattle.chart.specs.Values.{counts_fit, all_values}
use Rattle.words.specs.Each.{EachAfter}
use Rattle.chart_section.specs.ChartSection.{Chart, most_charts, elements_of, is_new_element}

-- the elements of the charts before it are used
pub record ValidChart (used : List ℕ) (c : Chart) : Type 0 where
  -- 'element 10': it is 1 to 10, and none of those
  pub new : is_new_element used c.element ≡ true
  -- 'counts 9'
  pub counts : counts_fit (length c.setup) (length c.later) ≡ true
  -- 'its values 10'
  pub setup : all_values c.setup ≡ true
  pub later : all_values c.later ≡ true

abbrev pub ValidAfter : List Chart → Chart → Type 0
ValidAfter before = ValidChart (elements_of before)

-- 'charts (0 to 10 ..)'
pub record ValidCharts (cs : List Chart) : Type 0 where
  pub few : length cs ≤ most_charts
  pub each : EachAfter ValidAfter [] cs
