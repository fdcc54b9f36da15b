-- The end that the code asks for, as the definitions have it.
use Rattle.std.specs.Prelude.{Bool, true, false}
use Rattle.solution.specs.declared.amounts.End.{End}
use Rattle.solution.specs.declared.amounts.End.TheVariants.{Least, Greatest}

abbrev pub is_greatest : End → Bool
is_greatest Least = false
is_greatest Greatest = true
