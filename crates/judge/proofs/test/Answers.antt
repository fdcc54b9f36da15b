-- What the record's tests answer, without the fields.
use native.Mathlib.Omega.{arith}
use Rattle.judge.proofs.AnswerWays.{acceptance_told}
use Rattle.judge.proofs.test.Goals as goal

pub returns-in_err-_floor : goal.returns-in_err-_floor
returns-in_err-_floor c = let told = acceptance_told _ _ c.accept.ensures in grind (arith, told)

pub returns : goal.returns
returns c = let told = acceptance_told _ _ c.accept.ensures in grind (arith, told)
