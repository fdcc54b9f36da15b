-- Each return is what the definition gives by the tests on the way; past them it is what reading the values gave.
use mathlib.Core.Path.{◌≡◌, refl, sym, ◌∙◌}
use mathlib.Core.Bool.{true}
use lib.ListN.{get_or}
use Rattle.chart_section.proofs.ChartLaws.{chart-short, chart-not-new, chart-not-fit, chart-values}
use Rattle.chart_section.specs.ChartSection.{is_new_element}
use Rattle.chart_section.specs.Columns.{elements_in}
use Rattle.chart_section.proofs.first.read_one.Goals as goal

pub returns-then-words-lt-HEAD_WORDS : goal.returns-then-words-lt-HEAD_WORDS
returns-then-words-lt-HEAD_WORDS c = chart-short _ _ c.if-words-lt-HEAD_WORDS.true

pub returns-then-not-is_new : goal.returns-then-not-is_new
returns-then-not-is_new c = chart-not-new _ _ c.if-words-lt-HEAD_WORDS.false (sym c.is_new_element-is_new.ensures ∙ c.if-not-is_new.true)

pub returns-then-not-fits : goal.returns-then-not-fits
returns-then-not-fits c =
    let is_new : is_new_element (elements_in c.args.used.now) (get_or c.args.words.now 0 0) ≡ true = cc in
    chart-not-fit _ _ c.if-words-lt-HEAD_WORDS.false refl refl is_new (sym c.counts_fit-fits.ensures ∙ c.if-not-fits.true)

pub read_values-requires : goal.read_values-requires
read_values-requires c = (c.if-words-lt-HEAD_WORDS.false, sym c.counts_fit-fits.ensures ∙ c.if-not-fits.false)

pub returns : goal.returns
returns c =
    let args = c.args in
    let is_new = sym c.is_new_element-is_new.ensures ∙ c.if-not-is_new.false in
    let fits = sym c.counts_fit-fits.ensures ∙ c.if-not-fits.false in
    let e = chart-values (elements_in args.used.now) args.words.now c.if-words-lt-HEAD_WORDS.false refl refl is_new fits in
    rw e c.read_values.ensures
