-- By the case of the reading; the product of a limit by 0.5 is a value, and exactly half of it.
use mathlib.Core.Path.{refl, sym, ap, ◌∙◌}
use lib.Dec.{T}
use lib.Ieee.{binary32, fits}
use borrow.Author.Rules.{rules}
use Rattle.reading.specs.Readings.{is_in_range}
use Rattle.reading.specs.Analytes.{mass_of, limit_of}
use Rattle.reading.proofs.RangeLaws.{limit-value}
use Rattle.reading.proofs.Half.{exact-half}
use Rattle.reading.proofs.AnalyteLaws.{missing-mass, measured-mass, below-mass, with-amounts}
use Rattle.reading.proofs.amounts.of_reading.Goals as goal

pub mass_of_value-requires-in-Below : goal.mass_of_value-requires-in-Below
mass_of_value-requires-in-Below c = (exact-half c.in-Below.limit (search rules) (sym (ap is_in_range c.in-Below.is) ∙ c.requires)).value

pub mass_of_value-requires-in-Below-2 : goal.mass_of_value-requires-in-Below-2
mass_of_value-requires-in-Below-2 c = limit-value _ (sym (ap is_in_range c.in-Below.is) ∙ c.requires)

-- the amounts first, so that a wrong one is said before what its call requires
pub returns-in-Missing : goal.returns-in-Missing
returns-in-Missing c = let told = c.in-Missing.is in with-amounts refl (missing-mass ∙ sym (ap mass_of told)) (sym (ap limit_of told))

pub returns-in-Measured : goal.returns-in-Measured
returns-in-Measured c =
    let told = c.in-Measured.is in
    with-amounts (sym told) (c.mass_of_value.ensures ∙ measured-mass _ (sym (ap is_in_range told) ∙ c.requires)) refl

pub returns-in-Below : goal.returns-in-Below
returns-in-Below c =
    let told = c.in-Below.is in
    let limit = sym (ap is_in_range told) ∙ c.requires in
    let held : T (fits binary32 c.in-Below.limit) = search rules in
    with-amounts (sym told) (c.mass_of_value-in-Below.ensures ∙ (exact-half _ held limit).amount ∙ below-mass _ limit)
    (c.mass_of_value-in-Below-2.ensures ∙ measured-mass _ (limit-value _ limit))
