-- What reading a chart gives by the tests on the way: its first three words, then its values.
use mathlib.Core.Path.{◌≡◌, refl, sym, ap, subst, ◌∙◌}
use mathlib.Core.Bool.{Bool, true, false, ◌&&◌}
use mathlib.Core.List.{List}
use Prim.Native.Nat.{ℕ, ◌+◌, ◌-◌, ◌≤◌, ◌<◌}
use native.Mathlib.Omega.{arith}
use native.Mathlib.Nat.{add_assoc}
use borrow.Author.Tests.{le-leb, lt-leb}
use lib.ListN.{length, get_or, take, drop, length-drop}
use lib.Seq.{take-add, drop-drop, length-take-le}
use Rattle.refusal.specs.Outcome.{outcome_of, Outcome, demand}
use Rattle.refusal.specs.Outcome.Outcome.{given, refused}
use Rattle.refusal.specs.Numbers.{number_of}
use Rattle.refusal.specs.declared.Refusal.{Refusal}
use Rattle.refusal.specs.declared.Refusal.TheVariants as refusal
use Rattle.refusal.proofs.Testing.{both}
use Rattle.chart.specs.Values.{counts_fit, all_values}
use Rattle.chart.proofs.ValueLaws.{values-append}
use Rattle.std.specs.Prelude.{Result, Ok, Err}
use Rattle.chart.specs.Charts.{last_signal_of}
use Rattle.chart.proofs.Laws.{last-given, last-refused}
use Rattle.words.specs.FromFront.{taken}
use Rattle.words.proofs.SliceLaws.{part_of, rest_of}
use Rattle.chart_section.specs.ChartSection.{Chart, head_words, is_new_element, values_of, chart_with, chart_of, signal_of}

-- ---- the first three words

module _ (used s : List ℕ) where
  pub chart-short : length s < head_words → chart_of used s ≡ refused (number_of refusal.BatchLength)
  unfolding chart_of
  chart-short h = rw (lt-leb head_words (length s) h)

  module _ (h : head_words ≤ length s) where
    pub chart-not-new : is_new_element used (get_or s 0 0) ≡ false → chart_of used s ≡ refused (number_of refusal.Chart)
    unfolding chart_of chart_with
    chart-not-new e = rw (le-leb head_words (length s) h, e)

    module _ {setup later : ℕ} (m : setup ≡ get_or s 1 0) (n : later ≡ get_or s 2 0) (e : is_new_element used (get_or s 0 0) ≡ true) where
      pub chart-not-fit : counts_fit setup later ≡ false → chart_of used s ≡ refused (number_of refusal.Count)
      unfolding chart_of chart_with
      chart-not-fit f = rw (le-leb head_words (length s) h, e, ← m, ← n, f)

      pub chart-values : counts_fit setup later ≡ true → chart_of used s ≡ values_of (get_or s 0 0) setup later (drop head_words s)
      unfolding chart_of chart_with
      chart-values f = rw (le-leb head_words (length s) h, e, ← m, ← n, f)

-- ---- the values

module _ (e setup later : ℕ) (s : List ℕ) where
  pub values-short : length s < setup + later → values_of e setup later s ≡ refused (number_of refusal.BatchLength)
  unfolding values_of
  values-short h = rw (lt-leb (setup + later) (length s) h)

  abbrev chart : Chart
  chart = record { element = e; setup = take setup s; later = take later (drop setup s) }

  -- what the chart's last signal tells of reading it
  abbrev Told : Outcome ℕ → Type 0
  Told (given g) = (values_of e setup later s ≡ taken chart (drop (setup + later) s)) × (signal_of chart ≡ g)
  Told (refused n) = values_of e setup later s ≡ refused n

  abbrev good : Bool
  good = all_values chart.setup && all_values chart.later

  module _ (fits : counts_fit setup later ≡ true) (h : setup + later ≤ length s) where
    counts : counts_fit (length chart.setup) (length chart.later) ≡ true
    counts =
        let m = length-take-le setup s (omega arith) in
        let n = length-take-le later (drop setup s) (omega (arith, length-drop setup s)) in
        rw (m, n) fits

    tests-values : values_of e setup later s ≡ demand good (number_of refusal.Chart) (taken chart (drop (setup + later) s))
    unfolding values_of
    tests-values = rw (le-leb (setup + later) (length s) h, take-add setup later s, values-append chart.setup chart.later)

    values-told : Told (last_signal_of chart.setup chart.later)
    values-told = go good refl
      where
        go : (b : Bool) → good ≡ b → Told (last_signal_of chart.setup chart.later)
        go true v =
            let p = both (all_values chart.setup) (all_values chart.later) v in
            rw (last-given chart.setup chart.later counts p.0 p.1) (rw (tests-values, v), refl)
        go false v = rw (last-refused chart.setup chart.later counts v) (rw (tests-values, v))

-- the same, of the parts that the code lends
module _ (e setup later : ℕ) (s : List ℕ) where
  abbrev lent_signal : Outcome ℕ
  lent_signal = last_signal_of (take (head_words + setup - head_words) (drop head_words s)) (take (head_words + setup + later - (head_words + setup)) (drop (head_words + setup) s))

  module _ (fits : counts_fit setup later ≡ true) (h : head_words + setup + later ≤ length s) where
    lent-told : Told e setup later (drop head_words s) lent_signal
    lent-told =
        rw (part_of s head_words setup, part_of s (head_words + setup) later, ← drop-drop setup head_words s)
        (values-told e setup later (drop head_words s) fits (omega (arith, length-drop head_words s)))

    module _ {r : Result ℕ Refusal} (signal : outcome_of r ≡ lent_signal) where
      pub values-taken : {g : ℕ} → r ≡ Ok g
          → (c : Chart) × (values_of e setup later (drop head_words s) ≡ taken c (take (length s - (head_words + setup + later)) (drop (head_words + setup + later) s)))
          × (c.element ≡ e) × (signal_of c ≡ g)
      values-taken {g} is =
          let t = subst (Told e setup later (drop head_words s)) (sym signal ∙ ap outcome_of is) lent-told in
          let behind : drop (setup + later) (drop head_words s) ≡ drop (head_words + setup + later) s = drop-drop (setup + later) head_words s ∙ rw (add_assoc head_words setup later) in
          (chart e setup later (drop head_words s), t.0 ∙ ap (taken _) (behind ∙ sym (rest_of s (head_words + setup + later))), refl, t.1)

      pub values-refused : {why : Refusal} → r ≡ Err why → values_of e setup later (drop head_words s) ≡ refused (number_of why)
      values-refused is = subst (Told e setup later (drop head_words s)) (sym signal ∙ ap outcome_of is) lent-told
