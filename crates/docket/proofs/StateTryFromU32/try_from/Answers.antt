use Prim.Native.Nat.{ℕ}
use native.Mathlib.Omega.{arith}
use borrow.Author.Tests.{ne_eqb}
use Rattle.docket.specs.Numbers.{standing_from}
use Rattle.docket.proofs.StateTryFromU32.try_from.Goals as goal

pub returns-in-0 : goal.returns-in-0
unfolding standing_from
returns-in-0 c = simp c.in-0.is

pub returns-in-1 : goal.returns-in-1
unfolding standing_from
returns-in-1 c = simp c.in-1.is

pub returns-in-2 : goal.returns-in-2
unfolding standing_from
returns-in-2 c = simp c.in-2.is

pub returns-in-3 : goal.returns-in-3
unfolding standing_from
returns-in-3 c = simp c.in-3.is

pub returns-in_default : goal.returns-in_default
unfolding standing_from
returns-in_default c =
    let n : ℕ = c.args.number in
    simp (ne_eqb n 0 (λ e. omega arith), ne_eqb n 1 (λ e. omega arith), ne_eqb n 2 (λ e. omega arith), ne_eqb n 3 (λ e. omega arith))
