-- The charts of the first batch joined one after another: where the loop begins, a turn, and its ways out.
use mathlib.Core.Path.{◌≡◌, refl, subst, ◌∙◌}
use mathlib.Core.List.{List, [], ◌∷◌, ◌++◌, map, map-append}
use Prim.Native.Nat.{ℕ, suc, ◌+◌, ◌-◌, ◌≤◌, ◌<◌}
use native.Mathlib.Omega.{arith}
use native.Mathlib.Numerals.{add-one}
use lib.ListN.{length, get_or, take, drop, length-map, drop_of_length-le}
use lib.Seq.{take-suc, take_all, drop-cons, length-take-le}
use Rattle.std.specs.Prelude.{Result, Ok, Err}
use Rattle.refusal.specs.Outcome.{Outcome}
use Rattle.refusal.specs.declared.Refusal.{Refusal}
use Rattle.chart_section.specs.ChartSection.{Chart, most_charts}
use Rattle.joining.specs.declared.buffer.Buffer.{Buffer}
use Rattle.joining.specs.Charts.{key_of, match_in, joined_chart, tested_with, tested_charts}
use Rattle.joining.specs.Steps.{HasCharts, charts_in, rest_in, chart_size, chart_at, Holds, ChartSaid, FirstSaid}
use Rattle.joining.proofs.WalkLaws.{no_chart, Walk, walk_begins, walk_more, walk-next, walk_ends, chart-here, count-there, valid-charts}
use Rattle.joining.proofs.FilledLaws.{holds-more}

pub record Joining (first second rest : List ℕ) (buffer : Buffer) (i : ℕ) : Type 0 where
  pub walk : Walk first rest i
  pub has : HasCharts second
  pub holds : Holds buffer (map (joined_chart (charts_in second)) (take i (charts_in first)))
  pub tests : (x : Outcome (List ℕ)) → tested_charts (charts_in first) (charts_in second) x ≡ tested_charts (drop i (charts_in first)) (charts_in second) x

pub joining-begins : (first second : List ℕ) (buffer : Buffer) → HasCharts first → HasCharts second → Holds buffer []
    → Joining first second (take (length first - 1) (drop 1 first)) buffer 0
joining-begins first second buffer f s h = record { walk = walk_begins first f; has = s; holds = h; tests = λ x. refl }

module _ (first second rest : List ℕ) (buffer : Buffer) (i : ℕ) (j : Joining first second rest buffer i) where
  abbrev cs : List Chart
  cs = charts_in first

  abbrev ds : List Chart
  ds = charts_in second

  module _ (l : i < get_or first 0 0) where
    more : i < length cs
    more = walk_more first rest i j.walk l

    abbrev c : Chart
    c = get_or cs i no_chart

    pub joining-few : buffer.count < most_charts
    joining-few =
        let few = (valid-charts first j.walk.has).few in
        let long : length (map (joined_chart ds) (take i cs)) ≡ i = length-map (take i cs) (joined_chart ds) ∙ length-take-le i cs j.walk.turns in
        omega (arith, j.holds.counted, few, more, long)

    next-charts : map (joined_chart ds) (take (i + 1) cs) ≡ map (joined_chart ds) (take i cs) ++ joined_chart ds c ∷ []
    next-charts = rw (add-one i, take-suc cs i no_chart more) (map-append (joined_chart ds) (take i cs) (c ∷ []))

    next-tests : (x : Outcome (List ℕ)) → tested_charts cs ds x ≡ tested_with c (match_in ds (key_of c)) (tested_charts (drop (suc i) cs) ds x)
    unfolding tested_charts
    next-tests x = j.tests x ∙ rw (drop-cons cs i no_chart more)

    -- what joining the chart that was read says
    module _ (chart : Chart) (read : chart ≡ chart_at rest) (r : Result (Unit {0}) Refusal) (new : Buffer)
        (said : ChartSaid r chart (match_in ds chart.element) buffer new) where
      here-said : ChartSaid r c (match_in ds (key_of c)) buffer new
      here-said = subst (λ (k : Chart). ChartSaid r k (match_in ds (key_of k)) buffer new) (read ∙ chart-here first rest i j.walk l) said

      pub joining-next : {u : Unit {0}} → r ≡ Ok u → {next : List ℕ} → next ≡ drop (chart_size rest) rest → Joining first second next new (i + 1)
      joining-next {u} is e =
          let s : ChartSaid (Ok u) c (match_in ds (key_of c)) buffer new = rw is at here-said in
          record {
            walk = walk-next first rest i j.walk l e;
            has = j.has;
            holds = rw next-charts (holds-more (map (joined_chart ds) (take i cs)) (joined_chart ds c) j.holds s.0);
            tests = λ x. next-tests x ∙ s.1 (tested_charts (drop (suc i) cs) ds x) ∙ rw (add-one i);
          }

      pub joining-refused : {why : Refusal} → r ≡ Err why → FirstSaid (Err why) first ds new
      joining-refused {why} is =
          let s : ChartSaid (Err why) c (match_in ds (key_of c)) buffer new = rw is at here-said in
          λ x. next-tests x ∙ s (tested_charts (drop (suc i) cs) ds x)

  pub joining-done : get_or first 0 0 ≤ i → (rest ≡ rest_in first) × Holds buffer (map (joined_chart ds) cs) × ((x : Outcome (List ℕ)) → tested_charts cs ds x ≡ x)
  unfolding tested_charts
  joining-done l =
      let all : length cs ≤ i = omega (arith, count-there first j.walk.has) in (
        walk_ends first rest i j.walk l,
        rw (take_all i cs all) at j.holds,
        λ x. j.tests x ∙ rw (drop_of_length-le cs all),
      )
