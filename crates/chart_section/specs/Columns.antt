-- What is answered to the charts' section at the front of words, the whole of it: how reading it ended, how many charts there are,
-- and two columns, each one's element and its last signal.
use Rattle.std.specs.Prelude.{List, [], ◌++◌, ℕ, ◌-◌, length, map, replicate}
use Rattle.refusal.specs.Outcome.{Outcome, outcome_of}
use Rattle.refusal.specs.Outcome.Outcome.{given, refused}
use Rattle.words.specs.FromFront.{Read}
use Rattle.chart_section.specs.declared.columns.ChartColumns.{ChartColumns}
use Rattle.chart_section.specs.declared.columns.ChartSignal.{ChartSignal}
use Rattle.chart_section.specs.ChartSection.{Chart, most_charts, elements_of, signals_in, charts_of}

pub record ColumnTerms : Type 0 where
  -- with so many words, or by the number of a refusal
  pub ended : Outcome ℕ
  pub count : ℕ
  pub elements : List ℕ
  pub signals : List ℕ

-- 'charts (0 to 10 ..)': a column has a place for each. What the charts have comes first, and beyond the last of them is 0
abbrev pub column : List ℕ → List ℕ
column entries = entries ++ replicate (most_charts - length entries) 0

-- reading ended so, and these are the charts
abbrev pub columns_with : Outcome ℕ → List Chart → ColumnTerms
columns_with end cs = record { ended = end; count = length cs; elements = column (elements_of cs); signals = column (signals_in cs) }

-- by what was read at the front of the words s: the charts, and how many words they take; or, as 'A refusal returns its number,
-- nothing else changes', that number and no chart: count 0, and 0 in every place
abbrev pub columns_by : List ℕ → Read (List Chart) → ColumnTerms
columns_by s (given p) = columns_with (given (length s - length p.1)) p.0
columns_by s (refused n) = columns_with (refused n) []

unfoldable pub columns_of : List ℕ → ColumnTerms
columns_of s = columns_by s (charts_of s)

-- the two columns of what the charts tell
abbrev pub elements_in : List ChartSignal → List ℕ
elements_in l = map (λ (c : ChartSignal). c.element) l

abbrev pub signals_held : List ChartSignal → List ℕ
signals_held l = map (λ (c : ChartSignal). c.signal) l

-- what was answered, in these terms
abbrev pub terms_of : ChartColumns → ColumnTerms
terms_of r = record { ended = outcome_of r.ended; count = r.count; elements = elements_in r.charts; signals = signals_held r.charts }
