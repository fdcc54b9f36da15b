-- The first batch's own tests, then the second's; then both are joined.
use Rattle.std.proofs.lemmas.Result.{err_from_is_err_and}
use Rattle.joining.proofs.Laws.{joins-two}
use Rattle.joining.proofs.OwnLaws.{first-own-refused, second-own-refused, own-passes}
use Rattle.joining.proofs.join.Goals as goal

pub returns-in_err-test : goal.returns-in_err-test
returns-in_err-test c =
    let p = err_from_is_err_and c.from_residual.result c.from_residual.ensures.1 in
    let d = first-own-refused _ c.args.second.now c.args.out.now c.test.ensures c.in_err-test.was in
    record { answer = rw (p.1, p.2) d.0; lent = d.1; joined = joins-two }

pub returns-in_err-test-2 : goal.returns-in_err-test-2
returns-in_err-test-2 c =
    let p = err_from_is_err_and c.from_residual-in_err-test-2.result c.from_residual-in_err-test-2.ensures.1 in
    let d = second-own-refused _ _ c.args.out.now (own-passes _ c.test.ensures c.in_ok-test.was) c.test-2.ensures c.in_err-test-2.was in
    record { answer = rw (p.1, p.2) d.0; lent = d.1; joined = joins-two }

pub join_tested-requires : goal.join_tested-requires
join_tested-requires c = (own-passes _ c.test.ensures c.in_ok-test.was, own-passes _ c.test-2.ensures c.in_ok-test-2.was)

pub returns : goal.returns
returns c = record { answer = c.join_tested.ensures.answer; lent = c.join_tested.ensures.lent; joined = joins-two }
