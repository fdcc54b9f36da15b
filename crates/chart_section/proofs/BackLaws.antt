-- What is read back: a chart that passes its tests is read from its own words, and so are the charts of a section.
use mathlib.Core.Path.{◌≡◌, refl, ap, ◌∙◌}
use mathlib.Core.Bool.{true}
use mathlib.Core.List.{List, ◌++◌, append_assoc}
use Prim.Native.Nat.{ℕ, ◌+◌, ◌≤◌}
use native.Mathlib.Omega.{arith}
use lib.ListN.{length, take, drop, length-append}
use lib.Seq.{take_at, drop_at}
use borrow.Author.Tests.{le-leb}
use Rattle.chart.specs.Values.{all_values}
use Rattle.chart.proofs.ValueLaws.{values-append}
use Rattle.words.specs.FromFront.{taken}
use Rattle.words.specs.Sections.{section_words}
use Rattle.words.proofs.BackLaws.{Returns, section-back}
use Rattle.chart_section.specs.ChartSection.{Chart, most_charts, elements_of, is_new_element, values_of, chart_with, chart_of, charts_of, chart_words}
use Rattle.chart_section.specs.Valid.{ValidAfter, ValidCharts}

module _ (e : ℕ) (setup later rest : List ℕ) where
  abbrev all : List ℕ
  all = (setup ++ later) ++ rest

  values-back : all_values (setup ++ later) ≡ true
      → values_of e (length setup) (length later) all ≡ taken (record { element = e; setup = setup; later = later }) rest
  unfolding values_of
  values-back v =
      let sum : length (setup ++ later) ≡ length setup + length later = length-append setup later in
      let room : length setup + length later ≤ length all = omega (arith, sum, length-append (setup ++ later) rest) in
      let front : take (length setup + length later) all ≡ setup ++ later = take_at (setup ++ later) rest (length setup + length later) sum in
      let behind : drop (length setup + length later) all ≡ rest = drop_at (setup ++ later) rest (length setup + length later) sum in
      let apart : all ≡ setup ++ (later ++ rest) = append_assoc setup later rest in
      let first : take (length setup) all ≡ setup = ap (take (length setup)) apart ∙ take_at setup (later ++ rest) (length setup) refl in
      let second : take (length later) (drop (length setup) all) ≡ later =
      ap (λ (l : List ℕ). take (length later) (drop (length setup) l)) apart
      ∙ ap (take (length later)) (drop_at setup (later ++ rest) (length setup) refl)
      ∙ take_at later rest (length later) refl
      in
      rw (le-leb (length setup + length later) (length all) room, front, v, first, second, behind)

chart-back : Returns ValidAfter chart_words (λ before. chart_of (elements_of before))
unfolding chart_of chart_with
chart-back before c rest v =
    let new : is_new_element (elements_of before) c.element ≡ true = v.new in
    let values : all_values (c.setup ++ c.later) ≡ true = values-append c.setup c.later ∙ rw (v.setup, v.later) in
    rw (le-leb 3 (length (chart_words c ++ rest)) (omega arith), new, v.counts) (values-back c.element c.setup c.later rest values)

pub charts-back : (cs : List Chart) (rest : List ℕ) → ValidCharts cs → charts_of (section_words chart_words cs ++ rest) ≡ taken cs rest
charts-back cs rest v = section-back ValidAfter chart_words _ chart-back most_charts cs rest v.few v.each
