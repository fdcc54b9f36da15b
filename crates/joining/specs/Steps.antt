-- The code's own form, which a reader of the promises can pass over: only the contracts of private functions cite it.
use Rattle.std.specs.Prelude.{◌≡◌, true, List, [], ◌∷◌, ◌++◌, map, ℕ, ◌+◌, ◌*◌, ◌≤◌, leb, length, get_or, take, drop, Option, Some, None, Result, Ok, Err}
use Rattle.std.specs.Borrow.{Bor}
use Rattle.refusal.specs.Outcome.{Outcome, demand, is_given}
use Rattle.refusal.specs.Outcome.Outcome.{given, refused}
use Rattle.refusal.specs.Numbers.{number_of}
use Rattle.refusal.specs.declared.Refusal.{Refusal}
use Rattle.refusal.specs.declared.Refusal.TheVariants as refusal
use Rattle.record.specs.Record.{record_words}
use Rattle.chart.specs.Values.{most_setup, most_later}
use Rattle.words.specs.FromFront.{Read}
use Rattle.words.specs.Sections.{all_words}
use Rattle.chart_section.specs.ChartSection.{Chart, head_words, charts_of, chart_words}
use Rattle.batch.specs.Batches.{most_samples, batch_of}
use Rattle.joining.specs.declared.buffer.Buffer.{Buffer}
use Rattle.joining.specs.declared.chart_at.Chart.{Chart as LentChart}
use Rattle.joining.specs.Charts.{Match, key_of, joined_with, joined_chart, tested_with, tested_charts}

-- ---- words that have passed the tests of a batch

abbrev pub HasBatch : List ℕ → Type 0
HasBatch s = is_given (batch_of s) ≡ true

-- their charts, and the words after those
abbrev pub HasCharts : List ℕ → Type 0
HasCharts s = is_given (charts_of s) ≡ true

abbrev pub charts_by : Read (List Chart) → List Chart
charts_by (given p) = p.0
charts_by (refused n) = []

unfoldable pub charts_in : List ℕ → List Chart
charts_in s = charts_by (charts_of s)

abbrev pub rest_by : Read (List Chart) → List ℕ
rest_by (given p) = p.1
rest_by (refused n) = []

unfoldable pub rest_in : List ℕ → List ℕ
rest_in s = rest_by (charts_of s)

-- ---- the chart at the front of words

abbrev pub chart_size : List ℕ → ℕ
chart_size s = head_words + get_or s 1 0 + get_or s 2 0

abbrev pub chart_at : List ℕ → Chart
chart_at s = record { element = get_or s 0 0; setup = take (get_or s 1 0) (drop head_words s); later = take (get_or s 2 0) (drop (head_words + get_or s 1 0) s) }

abbrev pub key_at : List ℕ → ℕ
key_at s = key_of (chart_at s)

pub record ChartThere (s : List ℕ) : Type 0 where
  pub whole : chart_size s ≤ length s
  pub setups : get_or s 1 0 ≤ most_setup
  pub laters : get_or s 2 0 ≤ most_later

abbrev pub more_later : Chart → List ℕ → Chart
more_later c more = record { element = c.element; setup = c.setup; later = c.later ++ more }

-- a chart as the code has it, and what was found
abbrev pub terms_of : LentChart → Chart
terms_of c = record { element = c.element; setup = c.setup.now; later = c.later.now }

abbrev pub match_of : Option LentChart → Match
match_of (Some c) = Match.both (terms_of c)
match_of None = Match.alone

-- ---- the buffer of joined charts

abbrev pub held_words : Buffer → List ℕ
held_words b = take b.size b.words

pub record Holds (b : Buffer) (held : List Chart) : Type 0 where
  pub counted : b.count ≡ length held
  pub words : held_words b ≡ all_words chart_words held

-- one chart more
pub record Put (old new : Buffer) (c : Chart) : Type 0 where
  pub counted : new.count ≡ old.count + 1
  pub words : held_words new ≡ held_words old ++ chart_words c

-- a chart c of the first batch, for which the second has m
abbrev pub ChartSaid : Result (Unit {0}) Refusal → Chart → Match → Buffer → Buffer → Type 0
ChartSaid (Ok u) c m old new = Put old new (joined_with c m) × ((rest : Outcome (List ℕ)) → tested_with c m rest ≡ rest)
ChartSaid (Err why) c m old new = (rest : Outcome (List ℕ)) → tested_with c m rest ≡ refused (number_of why)

abbrev pub FirstSaid : Result (Bor (List ℕ)) Refusal → List ℕ → List Chart → Buffer → Type 0
FirstSaid (Ok words) first second buffer =
    (words.now ≡ rest_in first)
    × Holds buffer (map (joined_chart second) (charts_in first))
    × ((rest : Outcome (List ℕ)) → tested_charts (charts_in first) second rest ≡ rest)
FirstSaid (Err why) first second buffer = (rest : Outcome (List ℕ)) → tested_charts (charts_in first) second rest ≡ refused (number_of why)

-- ---- the joined batch, of the words of so many charts and of both sections of samples

-- what such a section keeps to
pub record SamplesThere (w : List ℕ) : Type 0 where
  pub some : 1 ≤ length w
  pub few : get_or w 0 0 ≤ most_samples
  pub most : length w ≤ 1 + most_samples * record_words

unfoldable pub finished : ℕ → List ℕ → List ℕ → List ℕ → Outcome (List ℕ)
finished count charts first second =
    demand (leb (get_or first 0 0 + get_or second 0 0) most_samples) (number_of refusal.JoinedCount)
    (given ((count ∷ charts) ++ ((get_or first 0 0 + get_or second 0 0) ∷ (drop 1 first ++ drop 1 second))))

-- ---- two files

-- the number of the refusal where the second's bytes are no batch's, by the first's own tests
abbrev pub number_after : Outcome (Unit {0}) → ℕ
number_after (given x) = number_of refusal.BatchLength
number_after (refused n) = n
