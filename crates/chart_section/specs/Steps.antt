-- What this crate's own functions say of a chart at the front of the words, and of all of them; a reader of the promises can pass
-- over it.
use Rattle.std.specs.Prelude.{◌≡◌, List, ℕ, Result, Ok, Err}
use Rattle.refusal.specs.Outcome.Outcome.{refused}
use Rattle.refusal.specs.declared.Refusal.{Refusal}
use Rattle.refusal.specs.Numbers.{number_of}
use Rattle.words.specs.FromFront.{Read, taken}
use Rattle.chart_section.specs.declared.first.ChartRead.{ChartRead}
use Rattle.chart_section.specs.declared.columns.ChartColumns.{ChartColumns}
use Rattle.chart_section.specs.ChartSection.{Chart, signal_of, charts_of}
use Rattle.chart_section.specs.Columns.{columns_of, terms_of}

-- what reading the chart at the front of the words found, where the definition gives x
abbrev pub ChartSaid : Result ChartRead Refusal → Read Chart → Type 0
ChartSaid (Ok r) x = (c : Chart) × (x ≡ taken c r.rest.now) × (c.element ≡ r.chart.element) × (signal_of c ≡ r.chart.signal)
ChartSaid (Err why) x = x ≡ refused (number_of why)

-- what reading the charts' section at the front of the words s found
abbrev pub SectionSaid : Result ChartColumns Refusal → List ℕ → Type 0
SectionSaid (Ok r) s = terms_of r ≡ columns_of s
SectionSaid (Err why) s = charts_of s ≡ refused (number_of why)
