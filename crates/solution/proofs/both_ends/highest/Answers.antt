-- By the one test.
use native.Mathlib.Omega.{arith}
use Rattle.solution.proofs.both_ends.highest.Goals as goal

pub returns-then-whole : goal.returns-then-whole
returns-then-whole c = rw c.if-whole.true (omega arith)

pub returns : goal.returns
returns c = rw c.if-whole.false (omega arith)
