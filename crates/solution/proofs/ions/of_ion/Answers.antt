-- Each product is that of the row, and fits.
use Rattle.solution.proofs.IonLaws.{cation-fits, anion-fits, both-fit, conducting-fits, strength-fits, adds}
use Rattle.solution.proofs.ions.of_ion.Goals as goal

pub charge-cation-requires : goal.charge-cation-requires
charge-cation-requires c = search cation-fits

pub charge-anion-requires : goal.charge-anion-requires
charge-anion-requires c = search anion-fits

pub plus-charge-requires : goal.plus-charge-requires
plus-charge-requires c = search both-fit

pub conducting-conductivity-requires : goal.conducting-conductivity-requires
conducting-conductivity-requires c = search conducting-fits

pub strength-strength-requires : goal.strength-strength-requires
strength-strength-requires c = search strength-fits

pub returns : goal.returns
returns c = search adds
