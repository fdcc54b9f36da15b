-- What was read: a chart has passed its tests, and its words stand at the front; so do those of the charts' section, which are no
-- more than a batch may have.
use mathlib.Core.Path.{◌≡◌, refl, sym, ap, ◌∙◌}
use mathlib.Core.Bool.{Bool, true}
use mathlib.Core.List.{List, [], ◌∷◌, ◌++◌}
use Prim.Native.Nat.{ℕ, ◌+◌, ◌*◌, ◌≤◌}
use native.Mathlib.Omega.{arith}
use lib.Dec.{leb}
use lib.ListN.{length, get_or, take, drop, length-append, length-drop, take-append-drop}
use lib.Seq.{drop-cons, length-take-le, take-add}
use borrow.Author.Tests.{leb-true}
use Rattle.refusal.specs.Numbers.{number_of}
use Rattle.refusal.specs.declared.Refusal.TheVariants as refusal
use Rattle.refusal.proofs.Rows.{row-given}
use Rattle.refusal.proofs.Testing.{both}
use Rattle.chart.specs.Values.{counts_fit, all_values}
use Rattle.chart.proofs.ValueLaws.{Valid, counts-within, values-append}
use Rattle.words.specs.FromFront.{taken}
use Rattle.words.specs.Sections.{section_words}
use Rattle.words.specs.Each.{EachAfter}
use Rattle.words.proofs.EachLaws.{each-every}
use Rattle.words.proofs.SectionLaws.{words-most}
use Rattle.words.proofs.TakenLaws.{taken-same, Stands, section-taken}
use Rattle.chart_section.specs.ChartSection.{Chart, most_charts, most_chart, elements_of, is_new_element, values_of, chart_with, chart_of, charts_of, chart_words}
use Rattle.chart_section.specs.Valid.{ValidAfter, ValidCharts}

three-words : (s : List ℕ) → 3 ≤ length s → s ≡ get_or s 0 0 ∷ get_or s 1 0 ∷ get_or s 2 0 ∷ drop 3 s
three-words s h =
    let third = ap (λ (l : List ℕ). get_or s 1 0 ∷ l) (drop-cons s 2 0 (omega arith)) in
    let second = ap (λ (l : List ℕ). get_or s 0 0 ∷ l) (drop-cons s 1 0 (omega arith) ∙ third) in
    drop-cons s 0 0 (omega arith) ∙ second

values-taken : (e setup later : ℕ) (s : List ℕ) (c : Chart) (rest : List ℕ) → counts_fit setup later ≡ true → values_of e setup later s ≡ taken c rest
    → (e ≡ c.element) × Valid c.setup c.later × (e ∷ setup ∷ later ∷ s ≡ chart_words c ++ rest)
unfolding values_of
values-taken e setup later s c rest fits h =
    let tests : List (Bool × ℕ) = (leb (setup + later) (length s), number_of refusal.BatchLength) ∷ (all_values (take (setup + later) s), number_of refusal.Chart) ∷ [] in
    let here : Chart = record { element = e; setup = take setup s; later = take later (drop setup s) } in
    let p = row-given tests (taken here (drop (setup + later) s)) (c, rest) h in
    let t = taken-same p.1 in
    let l = leb-true (setup + later) (length s) p.0.0 in
    let long : later ≤ length (drop setup s) = omega (arith, l, length-drop setup s) in
    let two = both (all_values (take setup s)) (all_values (take later (drop setup s)))
    (sym (values-append (take setup s) (take later (drop setup s))) ∙ ap all_values (sym (take-add setup later s)) ∙ p.0.1.0) in
    rw (sym t.0, sym t.1, length-take-le setup s (omega (arith, l)), length-take-le later (drop setup s) long) (
      refl,
      record {
        counts = rw (length-take-le setup s (omega (arith, l)), length-take-le later (drop setup s) long) fits;
        setup = two.0;
        later = two.1;
      },
      ap (λ (x : List ℕ). e ∷ setup ∷ later ∷ x) (sym (take-append-drop (setup + later) s) ∙ ap (λ (x : List ℕ). x ++ drop (setup + later) s) (take-add setup later s)),
    )

chart-taken : Stands ValidAfter chart_words (λ before. chart_of (elements_of before))
unfolding chart_of chart_with
chart-taken before s c rest h =
    let e = get_or s 0 0 in
    let setup = get_or s 1 0 in
    let later = get_or s 2 0 in
    let tests : List (Bool × ℕ) =
    (leb 3 (length s), number_of refusal.BatchLength)
    ∷ (is_new_element (elements_of before) e, number_of refusal.Chart)
    ∷ (counts_fit setup later, number_of refusal.Count)
    ∷ [] in
    let p = row-given tests (values_of e setup later (drop 3 s)) (c, rest) h in
    let t = values-taken e setup later (drop 3 s) c rest p.0.1.1.0 p.1 in (
      record { new = ap (is_new_element (elements_of before)) (sym t.0) ∙ p.0.1.0; counts = t.1.counts; setup = t.1.setup; later = t.1.later },
      three-words s (leb-true 3 (length s) p.0.0) ∙ t.2,
    )

module _ (s : List ℕ) (cs : List Chart) (rest : List ℕ) (read : charts_of s ≡ taken cs rest) where
  all_read : (length cs ≤ most_charts) × EachAfter ValidAfter [] cs × (s ≡ section_words chart_words cs ++ rest)
  all_read = section-taken ValidAfter chart_words _ chart-taken most_charts s cs rest read

  pub charts-valid : ValidCharts cs
  charts-valid = record { few = all_read.0; each = all_read.1 }

  pub charts-stand : s ≡ section_words chart_words cs ++ rest
  charts-stand = all_read.2

-- how many words valid charts have
chart-most : (before : List Chart) (c : Chart) → ValidAfter before c → length (chart_words c) ≤ most_chart
chart-most before c v =
    let within = counts-within (length c.setup) (length c.later) v.counts in
    omega (arith, within, length-append c.setup c.later)

pub charts-most : (cs : List Chart) → ValidCharts cs → length (section_words chart_words cs) ≤ 1 + most_charts * most_chart
charts-most cs v =
    let each = each-every ValidAfter (λ c. length (chart_words c) ≤ most_chart) chart-most [] cs v.each in
    omega (arith, v.few, words-most chart_words most_chart cs each)

-- so what is left after them is no longer than the words
pub charts-within : (s rest : List ℕ) (cs : List Chart) → charts_of s ≡ taken cs rest → length rest ≤ length s
charts-within s rest cs e = omega (arith, ap length (charts-stand s cs rest e), length-append (section_words chart_words cs) rest)
