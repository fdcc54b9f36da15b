-- What is held of an accepted record, and what is told of a refused one, is the whole answer.
use mathlib.Core.Path.{sym, ◌∙◌}
use Rattle.record.proofs.HeldLaws.{held-given, held-refused}
use Rattle.record.proofs.test.Goals as goal

pub returns-in-Ok : goal.returns-in-Ok
returns-in-Ok c = held-given c.args.words.now _ (sym c.in-Ok.ensures)

pub returns-in-Err : goal.returns-in-Err
returns-in-Err c = c.refused.ensures ∙ held-refused c.args.words.now _ (sym c.in-Err.ensures)
