-- The charts of the first, then those only in the second; then all is written.
use Rattle.std.proofs.lemmas.Result.{err_from_is_err_and}
use Rattle.joining.proofs.JoinLaws.{first-refused, first-held, first-there, second-there, joined-answers}
use Rattle.joining.proofs.PartLaws.{parts-of}
use Rattle.joining.proofs.join_tested.Goals as goal

pub join_first-requires : goal.join_first-requires
join_first-requires c = ((parts-of _ c.requires.0).has, (parts-of _ c.requires.1).has, c.new-buffer.ensures)

pub returns-in_err-before : goal.returns-in_err-before
returns-in_err-before c =
    let e = err_from_is_err_and c.from_residual.result c.from_residual.ensures.1 in
    let said = first-refused _ _ (parts-of _ c.requires.0) (parts-of _ c.requires.1) _ _ c.join_first.ensures c.args.out.now c.in_err-before.was in
    record { answer = rw (e.1, e.2) said.0; lent = said.1 }

pub add_second-after-requires : goal.add_second-after-requires
add_second-after-requires c =
    let p = parts-of _ c.requires.0 in
    let q = parts-of _ c.requires.1 in
    record { has_charts = (p.has, q.has); held = first-held _ _ p q _ _ c.join_first.ensures _ c.in_ok-before.was }

pub write-requires : goal.write-requires
write-requires c =
    let p = parts-of _ c.requires.0 in
    let q = parts-of _ c.requires.1 in (
      first-there _ _ p q _ _ c.join_first.ensures _ c.in_ok-before.was,
      second-there _ _ p q _ _ c.join_first.ensures _ c.in_ok-before.was _ c.add_second-after.ensures.rest _ c.add_second-after.ensures.held,
    )

pub returns : goal.returns
returns c =
    let p = parts-of _ c.requires.0 in
    let q = parts-of _ c.requires.1 in
    let said = joined-answers _ _ p q _ _ c.join_first.ensures _ c.in_ok-before.was _ c.add_second-after.ensures.rest _ c.add_second-after.ensures.held
    c.args.out.now _ _ (c.write.ensures.answer, c.write.ensures.lent) in
    record { answer = said.0; lent = said.1 }
