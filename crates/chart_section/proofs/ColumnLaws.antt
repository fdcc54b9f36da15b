-- A column of entries, and the charts one after another: those before and their two columns where the loop begins, after a turn and
-- at its end; and the answer there.
use mathlib.Core.Path.{◌≡◌, refl, sym, ap, ◌∙◌}
use mathlib.Core.List.{List, [], ◌∷◌, ◌++◌, map, map-append}
use Prim.Native.Nat.{ℕ, suc, ◌+◌, ◌-◌, ◌≤◌, ◌<◌}
use native.Mathlib.Omega.{arith}
use lib.ListN.{length, take, set, replicate, length-append, length-map, length-set}
use lib.Seq.{append_snoc, set-append_seam, take_at}
use Rattle.std.specs.List.{take-map}
use Rattle.std.proofs.lemmas.List.{map-set}
use Rattle.std.specs.Prelude.{Result, Ok, Err}
use Rattle.refusal.specs.Outcome.Outcome.{given, refused}
use Rattle.refusal.specs.Numbers.{number_of}
use Rattle.refusal.specs.declared.Refusal.{Refusal}
use Rattle.refusal.specs.declared.Refusal.TheVariants as refusal
use Rattle.words.specs.FromFront.{Read, taken, many}
use Rattle.words.proofs.ManyLaws.{many-none, many-refused, many-next, section-over, section-begins}
use Rattle.chart_section.specs.declared.first.ChartRead.{ChartRead}
use Rattle.chart_section.specs.declared.columns.ChartColumns.{ChartColumns}
use Rattle.chart_section.specs.declared.columns.ChartSignal.{ChartSignal}
use Rattle.chart_section.specs.ChartSection.{Chart, most_charts, elements_of, signal_of, signals_in, chart_of, charts_of}
use Rattle.chart_section.specs.Columns.{column, columns_with, columns_of, columns_by, elements_in, signals_held, terms_of}
use Rattle.chart_section.specs.Steps.{ChartSaid}

-- ---- a column: entries, and 0 beyond them

pub column-front : (entries : List ℕ) (n : ℕ) → length entries ≡ n → take n (column entries) ≡ entries
column-front entries n e = take_at entries (replicate (most_charts - length entries) 0) n e

column-more : (entries : List ℕ) (a : ℕ) → length entries < most_charts → set (column entries) (length entries) a ≡ column (entries ++ a ∷ [])
column-more entries a h =
    let beyond = most_charts - length (entries ++ a ∷ []) in
    let one : most_charts - length entries ≡ suc beyond = omega (arith, length-append entries (a ∷ [])) in
    rw one (set-append_seam entries 0 (replicate beyond 0) a ∙ sym (append_snoc entries a (replicate beyond 0)))

-- ---- the charts one after another, and their columns

abbrev pub chart_after : List Chart → List ℕ → Read Chart
chart_after before = chart_of (elements_of before)

-- i of count charts have been read: what is left of the words decides the rest
pub record Begun (s : List ℕ) (count i : ℕ) (rest : List ℕ) (charts : List ChartSignal) : Type 0 where
  pub few : count ≤ most_charts
  pub room : length charts ≡ most_charts
  pub before : List Chart
  pub counted : length before ≡ i
  pub whole : charts_of s ≡ many chart_after (count - i) before rest
  pub elements_held : elements_in charts ≡ column (elements_of before)
  pub signals_held : signals_held charts ≡ column (signals_in before)

-- a count over the most refuses them all
pub charts_over : (count : ℕ) (rest : List ℕ) → most_charts < count → charts_of (count ∷ rest) ≡ refused (number_of refusal.Count)
charts_over count rest h = section-over chart_after most_charts (count ∷ rest) (omega arith) h

abbrev pub no_charts : List ChartSignal
no_charts = replicate most_charts (record { element = 0; signal = 0 })

pub charts-begun : (s : List ℕ) (count : ℕ) (rest : List ℕ) → s ≡ count ∷ rest → count ≤ most_charts → Begun s count 0 rest no_charts
charts-begun s count rest e k =
    rw e
    (record {
      few = k;
      room = refl;
      before = [];
      counted = refl;
      whole = section-begins chart_after most_charts (count ∷ rest) count (omega arith) refl k;
      elements_held = refl;
      signals_held = refl;
    })

-- a column of what the charts before have, and one more
column-next : (f : Chart → ℕ) (l : List ℕ) (i a : ℕ) (before : List Chart) (c : Chart) → i < most_charts → length before ≡ i → l ≡ column (map f before) → f c ≡ a
    → set l i a ≡ column (map f (before ++ c ∷ []))
column-next f l i a before c h n e t =
    let place : i ≡ length (map f before) = omega (arith, length-map before f) in
    rw (e, map-append f before (c ∷ []), ← t) (ap (λ (k : ℕ). set (column (map f before)) k (f c)) place ∙ column-more (map f before) (f c) (omega arith))

-- a turn: what reading the next chart found, in the parts that the code lends
module _ (s : List ℕ) (count i : ℕ) (rest : List ℕ) (charts : List ChartSignal) (u : Begun s count i rest charts) (h : i < count) where
  abbrev used : List ChartSignal
  used = take i charts

  lent : chart_of (elements_in used) rest ≡ chart_after u.before rest
  lent =
      let counted : length (elements_of u.before) ≡ i = length-map u.before (λ (c : Chart). c.element) ∙ u.counted in
      let held : take i (elements_in charts) ≡ elements_of u.before = ap (take i) u.elements_held ∙ column-front (elements_of u.before) i counted in
      ap (λ (l : List ℕ). chart_of l rest) (sym (take-map (λ (c : ChartSignal). c.element) i charts) ∙ held)

  module _ {r : Result ChartRead Refusal} (found : ChartSaid r (chart_of (elements_in used) rest)) where
    pub charts-refused : {why : Refusal} → r ≡ Err why → charts_of s ≡ refused (number_of why)
    charts-refused {why} is =
        let e : chart_of (elements_in used) rest ≡ refused (number_of why) = rw is at found in
        u.whole ∙ many-refused chart_after count i u.before rest h (sym lent ∙ e)

    pub charts-next : {a : ChartRead} → r ≡ Ok a → Begun s count (i + 1) a.rest.now (set charts i a.chart)
    charts-next {a} is =
        let c : ChartSaid (Ok a) (chart_of (elements_in used) rest) = rw is at found in
        let m : i < most_charts = omega (arith, u.few) in
        record {
          few = u.few;
          room = length-set charts i a.chart ∙ u.room;
          before = u.before ++ c.0 ∷ [];
          counted = length-append u.before (c.0 ∷ []) ∙ ap (λ (n : ℕ). n + 1) u.counted;
          whole = u.whole ∙ many-next chart_after count i u.before rest h (sym lent ∙ c.1);
          elements_held = map-set (λ (x : ChartSignal). x.element) charts i a.chart
              ∙ column-next (λ (x : Chart). x.element) (elements_in charts) i a.chart.element u.before c.0 m u.counted u.elements_held c.2;
          signals_held = map-set (λ (x : ChartSignal). x.signal) charts i a.chart
              ∙ column-next signal_of (signals_held charts) i a.chart.signal u.before c.0 m u.counted u.signals_held c.3;
        }

-- ---- the answer

module _ (s : List ℕ) (count i : ℕ) (rest : List ℕ) (charts : List ChartSignal) (u : Begun s count i rest charts) (l : count ≤ i) (m : i ≤ count) where
  pub charts-taken : charts_of s ≡ taken u.before rest
  charts-taken = u.whole ∙ many-none chart_after count i u.before rest l

  pub answer-whole : (record { ended = given (length s - length rest); count = count; elements = elements_in charts; signals = signals_held charts }) ≡ columns_of s
  unfolding columns_of
  answer-whole =
      let counted : count ≡ length u.before = omega (arith, u.counted) in
      rw (charts-taken, counted, u.elements_held, u.signals_held)

pub answer-refused : (s : List ℕ) (r : ChartColumns) {n : ℕ} → terms_of r ≡ columns_with (refused n) [] → charts_of s ≡ refused n → terms_of r ≡ columns_of s
unfolding columns_of
answer-refused s r told e = told ∙ sym (ap (columns_by s) e)
