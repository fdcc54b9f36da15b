-- `hydrogen::floor_at` meets its contract: the two tests say whether p is in its range.
use mathlib.Core.Path.{sym, ap, ◌∙◌}
use mathlib.Core.Logic.{inl, inr, ⊎_elim}
use borrow.Author.Rules.{rules}
use Rattle.refusal.specs.Outcome.Outcome.{given}
use Rattle.hydrogen.proofs.Laws.{hydrogen-at, floor-in-range, floor-out-of-range}
use Rattle.hydrogen.proofs.floor_at.Goals as goal

pub returns-then-p-lt-LEAST_PH-clause-answer : goal.returns-then-p-lt-LEAST_PH-clause-answer
returns-then-p-lt-LEAST_PH-clause-answer c = sym (floor-out-of-range c.args.p (⊎_elim inl (λ above. inr above.1) c.then-p-lt-LEAST_PH.either))

pub returns : goal.returns
returns c = record {
  answer = ap given c.floor.ensures.answer ∙ sym (floor-in-range c.args.p (search rules) (search rules));
  truth = hydrogen-at c.args.p;
}
