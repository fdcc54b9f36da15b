-- Every sum is that of the fields at that end, and none comes near 64 bits.
use native.Mathlib.Omega.{arith}
use Rattle.solution.proofs.MadeLaws.{cations-fit, anions-fit, calculated-fits, strength-fits, made}
use Rattle.solution.specs.Ends.{is_greatest}
use Rattle.solution.proofs.one_end.sums.Goals as goal

pub plus-cations-requires : goal.plus-cations-requires
plus-cations-requires c = search cations-fit

pub plus-anions-requires : goal.plus-anions-requires
plus-anions-requires c = omega (arith, anions-fit _ (is_greatest c.args.end) _ c.requires c.eight-eight.ensures c.alkalinity_charge-alkalinity.ensures)

pub calculated-calculated-requires : goal.calculated-calculated-requires
calculated-calculated-requires c = search calculated-fits

pub strength_of-strength-requires : goal.strength_of-strength-requires
strength_of-strength-requires c = search strength-fits

-- before what the calls require, so that a wrong sum is told first
pub returns : goal.returns
returns c =
    made _ (is_greatest c.args.end) _ c.requires c.eight-eight.ensures c.alkalinity_charge-alkalinity.ensures c.plus-cations.ensures c.plus-anions.ensures
    c.calculated-calculated.ensures c.measured_conductivity-measured.ensures c.strength-of_ions.ensures c.strength_of-strength.ensures c.sodium_chloride-ratio.ensures c.nitrogen-nitrogen.ensures
