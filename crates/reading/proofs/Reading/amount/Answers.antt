-- By whether the reading is in range; what is given is its amount where it is there.
use mathlib.Core.Path.{sym}
use Rattle.reading.proofs.AmountProofs.{amount-laws}
use Rattle.reading.proofs.AnalyteLaws.{none-out-of-range, given-in-range}
use Rattle.reading.proofs.Reading.amount.Goals as goal

pub returns-then-not-is_in_range : goal.returns-then-not-is_in_range
returns-then-not-is_in_range c = record { answer = none-out-of-range c.args.self (sym c.if-not-is_in_range.ensures); laws = amount-laws }

pub returns-clause-laws : goal.returns-clause-laws
returns-clause-laws c = amount-laws

pub returns-clause-answer : goal.returns-clause-answer
returns-clause-answer c = rw (c.then_some.ensures, c.is_present.ensures, c.of_reading-analyte.ensures) (given-in-range c.args.self (sym c.if-not-is_in_range.ensures))
