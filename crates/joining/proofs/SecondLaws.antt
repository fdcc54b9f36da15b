-- The charts that are found only in the second batch, one after another: where the loop begins, a turn, and its end.
use mathlib.Core.Path.{◌≡◌, refl, sym, ap, subst, ◌∙◌}
use mathlib.Core.Bool.{Bool, true, false, not, true≢false}
use mathlib.Core.List.{List, [], ◌∷◌, ◌++◌, append_assoc, append-nil, map}
use Prim.Native.Nat.{ℕ, ◌+◌, ◌-◌, ◌≤◌, ◌<◌}
use native.Mathlib.Omega.{arith}
use native.Mathlib.Numerals.{add-one}
use lib.ListN.{length, get_or, take, drop, length-append, take-append-drop}
use lib.Seq.{take-suc, take_all}
use Rattle.std.specs.Prelude.{Option, Some, None}
use Rattle.std.specs.Option.{is_some}
use Rattle.chart_section.specs.ChartSection.{Chart, most_charts}
use Rattle.joining.specs.declared.buffer.Buffer.{Buffer}
use Rattle.joining.specs.declared.chart_at.Chart.{Chart as LentChart}
use Rattle.joining.specs.Charts.{Match, key_of, match_in, joined_chart, unless_matched, only_in, joined_charts}
use Rattle.joining.specs.Steps.{HasCharts, charts_in, rest_in, chart_size, chart_at, terms_of, match_of, more_later, Holds, Put}
use Rattle.joining.proofs.ChartLaws.{few-charts}
use Rattle.joining.proofs.WalkLaws.{no_chart, Walk, walk_begins, walk_more, walk-next, walk_ends, chart-here, count-there, valid-charts}
use Rattle.joining.proofs.StepLaws.{put-own}
use Rattle.joining.proofs.FilledLaws.{holds-more}

-- ---- those that are only in the second, of two lists

only-of-two : (cs l t : List Chart) → only_in cs (l ++ t) ≡ only_in cs l ++ only_in cs t
unfolding only_in
only-of-two cs [] t = refl
only-of-two cs (d ∷ l) t = rw (only-of-two cs l t) (go (match_in cs (key_of d)))
  where
    go : (m : Match) → unless_matched m d (only_in cs l ++ only_in cs t) ≡ unless_matched m d (only_in cs l) ++ only_in cs t
    go Match.alone = refl
    go (Match.both c) = refl

one-new : (cs : List Chart) (d : Chart) → match_in cs (key_of d) ≡ Match.alone → only_in cs (d ∷ []) ≡ d ∷ []
unfolding only_in
one-new cs d h = rw h

one_known : (cs : List Chart) (d c : Chart) → match_in cs (key_of d) ≡ Match.both c → only_in cs (d ∷ []) ≡ []
unfolding only_in
one_known cs d c h = rw h

-- ---- the loop

-- the joined charts, those of the second up to i
abbrev held_to : List Chart → List Chart → ℕ → List Chart
held_to cs ds i = map (joined_chart ds) cs ++ only_in cs (take i ds)

-- what was found is a chart, or none
pub none-there : (r : Option LentChart) {m : Match} {none : Bool} → match_of r ≡ m → is_some r ≡ not none → none ≡ true → m ≡ Match.alone
none-there None e i t = sym e
none-there (Some c) e i t = absurd (true≢false (i ∙ ap not t))

pub some-there : (r : Option LentChart) {m : Match} {none : Bool} → match_of r ≡ m → is_some r ≡ not none → none ≡ false → (k : Chart) × (m ≡ Match.both k)
some-there None e i t = absurd (true≢false (sym (i ∙ ap not t)))
some-there (Some c) e i t = (terms_of c, sym e)

pub record Adding (first second rest : List ℕ) (buffer : Buffer) (i : ℕ) : Type 0 where
  pub walk : Walk second rest i
  pub has : HasCharts first
  pub holds : Holds buffer (held_to (charts_in first) (charts_in second) i)

pub adding-begins : (first second : List ℕ) (buffer : Buffer) → HasCharts first → HasCharts second
    → Holds buffer (map (joined_chart (charts_in second)) (charts_in first)) → Adding first second (take (length second - 1) (drop 1 second)) buffer 0
unfolding only_in
adding-begins first second buffer f s holds =
    let firsts : List Chart = map (joined_chart (charts_in second)) (charts_in first) in
    record { walk = walk_begins second s; has = f; holds = rw (append-nil firsts) holds }

module _ (first second rest : List ℕ) (buffer : Buffer) (i : ℕ) (a : Adding first second rest buffer i) where
  abbrev cs : List Chart
  cs = charts_in first

  abbrev ds : List Chart
  ds = charts_in second

  few-all : length (joined_charts cs ds) ≤ most_charts
  few-all = few-charts cs ds (valid-charts first a.has).each (valid-charts second a.walk.has).each

  few-to : (k : ℕ) → length (held_to cs ds k) ≤ most_charts
  few-to k =
      let whole : only_in cs ds ≡ only_in cs (take k ds) ++ only_in cs (drop k ds) =
      ap (only_in cs) (sym (take-append-drop k ds)) ∙ only-of-two cs (take k ds) (drop k ds) in
      omega (
        arith,
        few-all,
        ap length whole,
        length-append (only_in cs (take k ds)) (only_in cs (drop k ds)),
        length-append (map (joined_chart ds) cs) (only_in cs ds),
        length-append (map (joined_chart ds) cs) (only_in cs (take k ds)),
      )

  module _ (l : i < get_or second 0 0) (chart : Chart) (read : chart ≡ chart_at rest) where
    abbrev d : Chart
    d = get_or ds i no_chart

    same : chart ≡ d
    same = read ∙ chart-here second rest i a.walk l

    next-two : only_in cs (take (i + 1) ds) ≡ only_in cs (take i ds) ++ only_in cs (d ∷ [])
    next-two = rw (add-one i, take-suc ds i no_chart (walk_more second rest i a.walk l)) (only-of-two cs (take i ds) (d ∷ []))

    -- the first has none of its key, or it has
    module _ (h : match_in cs chart.element ≡ Match.alone) where
      held_new : held_to cs ds (i + 1) ≡ held_to cs ds i ++ d ∷ []
      held_new =
          let none : match_in cs (key_of d) ≡ Match.alone = ap (λ (c : Chart). match_in cs (key_of c)) (sym same) ∙ h in
          ap (λ (t : List Chart). map (joined_chart ds) cs ++ t) (next-two ∙ ap (λ (t : List Chart). only_in cs (take i ds) ++ t) (one-new cs d none))
          ∙ sym (append_assoc (map (joined_chart ds) cs) (only_in cs (take i ds)) (d ∷ []))

      pub adding-few : buffer.count < most_charts
      adding-few = omega (arith, a.holds.counted, few-to (i + 1), ap length held_new, length-append (held_to cs ds i) (d ∷ []))

      pub adding-new : {new : Buffer} → Put buffer new (more_later chart []) → {next : List ℕ} → next ≡ drop (chart_size rest) rest
          → Adding first second next new (i + 1)
      adding-new {new} put e =
          let own : Put buffer new d = subst (Put buffer new) same (put-own chart put) in
          record { walk = walk-next second rest i a.walk l e; has = a.has; holds = rw held_new (holds-more (held_to cs ds i) d a.holds own) }

    pub adding-known : {k : Chart} → match_in cs chart.element ≡ Match.both k → {next : List ℕ} → next ≡ drop (chart_size rest) rest
        → Adding first second next buffer (i + 1)
    adding-known {k} h e =
        let some : match_in cs (key_of d) ≡ Match.both k = ap (λ (c : Chart). match_in cs (key_of c)) (sym same) ∙ h in
        let held : held_to cs ds (i + 1) ≡ held_to cs ds i =
        ap (λ (t : List Chart). map (joined_chart ds) cs ++ t)
        (next-two ∙ ap (λ (t : List Chart). only_in cs (take i ds) ++ t) (one_known cs d k some) ∙ append-nil (only_in cs (take i ds))) in
        record { walk = walk-next second rest i a.walk l e; has = a.has; holds = rw held a.holds }

  pub adding-done : get_or second 0 0 ≤ i → (rest ≡ rest_in second) × Holds buffer (joined_charts cs ds)
  adding-done l =
      let all : length ds ≤ i = omega (arith, count-there second a.walk.has) in
      let every : take i ds ≡ ds = take_all i ds all in
      (walk_ends second rest i a.walk l, rw every at a.holds)
