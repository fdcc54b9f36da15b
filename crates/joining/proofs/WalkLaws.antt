-- A walk over the charts of a batch, by where each begins; and a search for the chart of a key.
use mathlib.Core.Path.{◌≡◌, refl, sym, ap, ◌∙◌}
use mathlib.Core.Bool.{true}
use mathlib.Core.List.{List, [], ◌∷◌, ◌++◌, append_assoc}
use Prim.Native.Nat.{ℕ, zero, suc, ◌+◌, ◌-◌, ◌≤◌, ◌<◌}
use native.Mathlib.Omega.{arith}
use native.Mathlib.Numerals.{add-one}
use borrow.Author.Tests.{eq-eqb, ne_eqb}
use lib.ListN.{length, get_or, take, drop, length-append, drop_of_length-le}
use lib.Seq.{take_at, drop_at, drop-cons, drop-drop}
use Rattle.refusal.specs.Outcome.{is_given}
use Rattle.refusal.specs.Outcome.Outcome.{given, refused}
use Rattle.chart.proofs.ValueLaws.{counts-within}
use Rattle.words.specs.FromFront.{Read, taken}
use Rattle.words.specs.Sections.{all_words, section_words}
use Rattle.words.specs.Each.{Every}
use Rattle.words.proofs.SliceLaws.{rest_of}
use Rattle.chart_section.specs.ChartSection.{Chart, head_words, charts_of, chart_words}
use Rattle.chart_section.specs.Valid.{ValidCharts}
use Rattle.chart_section.proofs.StandLaws.{charts-valid, charts-stand}
use Rattle.joining.specs.Charts.{Match, key_of, match_in}
use Rattle.joining.specs.Steps.{HasCharts, charts_by, rest_by, charts_in, rest_in, chart_size, chart_at, ChartThere}
use Rattle.joining.proofs.OnlyLaws.{InRange, valid-parts}

-- ---- a chart at the front of words

module _ (c : Chart) (rest : List ℕ) where
  abbrev front : List ℕ
  front = chart_words c ++ rest

  apart : (c.setup ++ c.later) ++ rest ≡ c.setup ++ (c.later ++ rest)
  apart = append_assoc c.setup c.later rest

  front-setup : take (length c.setup) ((c.setup ++ c.later) ++ rest) ≡ c.setup
  front-setup = ap (take (length c.setup)) apart ∙ take_at c.setup (c.later ++ rest) (length c.setup) refl

  front-later : take (length c.later) (drop (head_words + length c.setup) front) ≡ c.later
  front-later =
      ap (take (length c.later)) (sym (drop-drop (length c.setup) head_words front))
      ∙ ap (λ (l : List ℕ). take (length c.later) (drop (length c.setup) l)) apart
      ∙ ap (take (length c.later)) (drop_at c.setup (c.later ++ rest) (length c.setup) refl)
      ∙ take_at c.later rest (length c.later) refl

  front-chart : chart_at front ≡ c
  front-chart = rw (front-setup, front-later)

  front-size : chart_size front ≡ length (chart_words c)
  front-size = omega (arith, length-append c.setup c.later)

  front-there : InRange c → ChartThere front
  front-there r =
      let w = counts-within (length c.setup) (length c.later) r.counts in
      record { whole = omega (arith, length-append c.setup c.later, length-append (c.setup ++ c.later) rest); setups = w.1; laters = w.2 }

-- ---- the charts of a batch

every-getD : (P : Chart → Type 0) (l : List Chart) (i : ℕ) (d : Chart) → Every P l → i < length l → P (get_or l i d)
every-getD P [] i d p h = absurd (omega arith)
every-getD P (a ∷ l) zero d p h = p.0
every-getD P (a ∷ l) (suc i) d p h = every-getD P l i d p.1 (omega arith)

abbrev pub no_chart : Chart
no_chart = record { element = 0; setup = []; later = [] }

pub record Walk (s rest : List ℕ) (i : ℕ) : Type 0 where
  pub has : HasCharts s
  pub turns : i ≤ length (charts_in s)
  pub there : rest ≡ all_words chart_words (drop i (charts_in s)) ++ rest_in s

module _ (s : List ℕ) (has : HasCharts s) where
  charts-read : charts_of s ≡ taken (charts_in s) (rest_in s)
  unfolding charts_in rest_in
  charts-read = go (charts_of s) has
    where
      go : (x : Read (List Chart)) → is_given x ≡ true → x ≡ taken (charts_by x) (rest_by x)
      go (given p) h = refl
      go (refused n) h = let z : ◌≡◌ {A = ℕ} 0 1 = cc in absurd (omega arith)

  pub charts-there : s ≡ section_words chart_words (charts_in s) ++ rest_in s
  charts-there = charts-stand s (charts_in s) (rest_in s) charts-read

  pub valid-charts : ValidCharts (charts_in s)
  valid-charts = charts-valid s (charts_in s) (rest_in s) charts-read

  charts-in-range : Every InRange (charts_in s)
  charts-in-range = (valid-parts [] (charts_in s) valid-charts.each).1

  pub words-there : 1 ≤ length s
  words-there = omega (arith, ap length charts-there)

  pub count-there : get_or s 0 0 ≡ length (charts_in s)
  count-there = ap (λ (l : List ℕ). get_or l 0 0) charts-there

  pub walk_begins : Walk s (take (length s - 1) (drop 1 s)) 0
  walk_begins = record { has = has; turns = omega arith; there = rest_of s 1 ∙ ap (drop 1) charts-there }

module _ (s rest : List ℕ) (i : ℕ) (w : Walk s rest i) where
  module _ (l : i < get_or s 0 0) where
    pub walk_more : i < length (charts_in s)
    walk_more = omega (arith, count-there s w.has)

    abbrev pub chart : Chart
    chart = get_or (charts_in s) i no_chart

    after : List ℕ
    after = all_words chart_words (drop (suc i) (charts_in s)) ++ rest_in s

    here : rest ≡ chart_words chart ++ after
    unfolding all_words after
    here =
        w.there
        ∙ ap (λ (cs : List Chart). all_words chart_words cs ++ rest_in s) (drop-cons (charts_in s) i no_chart walk_more)
        ∙ append_assoc (chart_words chart) (all_words chart_words (drop (suc i) (charts_in s))) (rest_in s)

    pub chart-here : chart_at rest ≡ chart
    chart-here = ap chart_at here ∙ front-chart chart after

    pub in-range-here : InRange chart
    in-range-here = every-getD InRange (charts_in s) i no_chart (charts-in-range s w.has) walk_more

    pub there-here : ChartThere rest
    there-here = rw here (front-there chart after in-range-here)

    pub walk-next : {next : List ℕ} → next ≡ drop (chart_size rest) rest → Walk s next (i + 1)
    unfolding after
    walk-next e =
        record {
          has = w.has;
          turns = omega (arith, walk_more);
          there =
              e
              ∙ ap (λ (r : List ℕ). drop (chart_size r) r) here
              ∙ drop_at (chart_words chart) after (chart_size (front chart after)) (sym (front-size chart after))
              ∙ rw (add-one i);
        }

  pub walk_ends : get_or s 0 0 ≤ i → rest ≡ rest_in s
  unfolding all_words
  walk_ends h =
      let all : length (charts_in s) ≤ i = omega (arith, count-there s w.has) in
      w.there ∙ ap (λ (cs : List Chart). all_words chart_words cs ++ rest_in s) (drop_of_length-le (charts_in s) all)

-- ---- a search

pub record Seeking (s rest : List ℕ) (e i : ℕ) : Type 0 where
  pub walk : Walk s rest i
  pub same : match_in (charts_in s) e ≡ match_in (drop i (charts_in s)) e

pub seek-begins : (s : List ℕ) (e : ℕ) → HasCharts s → Seeking s (take (length s - 1) (drop 1 s)) e 0
seek-begins s e has = record { walk = walk_begins s has; same = refl }

module _ (s rest : List ℕ) (e i : ℕ) (k : Seeking s rest e i) where
  module _ (l : i < get_or s 0 0) (c : Chart) (read : c ≡ chart_at rest) where
    abbrev it : Chart
    it = get_or (charts_in s) i no_chart

    same_chart : c ≡ it
    same_chart = read ∙ chart-here s rest i k.walk l

    pub seek_found : c.element ≡ e → Match.both c ≡ match_in (charts_in s) e
    unfolding match_in
    seek_found f =
        let is : key_of it ≡ e = sym (ap key_of same_chart) ∙ f in
        sym (k.same ∙ rw (drop-cons (charts_in s) i no_chart (walk_more s rest i k.walk l), eq-eqb (key_of it) e is, same_chart))

    pub seek-next : (c.element ≡ e → ⊥) → {next : List ℕ} → next ≡ drop (chart_size rest) rest → Seeking s next e (i + 1)
    unfolding match_in
    seek-next f n =
        let other : key_of it ≡ e → ⊥ = λ is. f (ap key_of same_chart ∙ is) in
        record {
          walk = walk-next s rest i k.walk l n;
          same = k.same ∙ rw (add-one i, drop-cons (charts_in s) i no_chart (walk_more s rest i k.walk l), ne_eqb (key_of it) e other);
        }

  pub seek-end : get_or s 0 0 ≤ i → Match.alone ≡ match_in (charts_in s) e
  unfolding match_in
  seek-end l =
      let all : length (charts_in s) ≤ i = omega (arith, count-there s k.walk.has) in
      sym (k.same ∙ ap (λ (cs : List Chart). match_in cs e) (drop_of_length-le (charts_in s) all))
