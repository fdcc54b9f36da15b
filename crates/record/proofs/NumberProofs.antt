-- Two words and the number that they make.
use native.Mathlib.Omega.{arith}
use Rattle.record.specs.Number.{NumberLaws}

pub number-laws : NumberLaws
number-laws =
    record {
      together = λ number. omega arith;
      apart = λ high low l. (omega arith, omega arith);
      fits = λ high low h l. omega arith;
    }
