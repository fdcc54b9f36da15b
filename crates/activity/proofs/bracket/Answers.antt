-- `activity::bracket` meets its contract: the tests say whether there is a bracket, and each call is a step to one of its ends.
use mathlib.Core.Path.{sym, ap₂, ◌∙◌}
use mathlib.Core.Logic.{inl, inr, ⊎_elim}
use native.Mathlib.Omega.{arith}
use borrow.Author.Rules.{rules}
use Rattle.activity.specs.Brackets.{between}
use Rattle.activity.proofs.FloorLaws.{floor-most}
use Rattle.activity.proofs.Ends.{lower-end-from, upper-end-from}
use Rattle.activity.proofs.Laws.{bracket-given, bracket-none, bracketed}
use Rattle.activity.proofs.bracket.Goals as goal

pub returns-then-least-gt-STRONGEST : goal.returns-then-least-gt-STRONGEST
returns-then-least-gt-STRONGEST c = record {
  answer = sym (bracket-none _ _ (⊎_elim inl (λ other. inr other.1) c.then-least-gt-STRONGEST.either));
  truth = bracketed _ _;
}

pub overflow_add-most : goal.overflow_add-most
overflow_add-most c = omega (arith, c.floor-most.ensures, floor-most c.lower-lower.result.thousandths)

pub returns : goal.returns
returns c = record {
  answer = ap₂ between
      (lower-end-from _ c.upper.ensures c.upper-upper.ensures c.floor.ensures)
      (upper-end-from _ c.lower-near.ensures c.lower-lower.ensures c.floor-most.ensures)
      ∙ sym (bracket-given _ _ (search rules) (search rules));
  truth = bracketed _ _;
}
