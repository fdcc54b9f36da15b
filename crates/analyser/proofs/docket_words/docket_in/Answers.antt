-- The test for room is that of the definition; then the state is that of the first word, or refused with it.
use borrow.Author.Rules.{rules}
use mathlib.Core.Path.{sym, ap, ◌∙◌}
use lib.ListN.{length}
use borrow.Author.Tests.{le-leb, lt-leb}
use Rattle.refusal.specs.Outcome.{outcome_by}
use Rattle.refusal.proofs.Outcomes.{handed-on-by}
use Rattle.docket.specs.Terms.{standing_of, docket_of}
use Rattle.analyser.specs.DocketWords.{docket_length, standing_in, docket_from}
use Rattle.analyser.proofs.docket_words.docket_in.Goals as goal

pub returns-then-lent-lt-LENGTH : goal.returns-then-lent-lt-LENGTH
unfolding docket_from standing_in
returns-then-lent-lt-LENGTH c = simp (lt-leb docket_length (length c.args.lent.now) (search rules))

pub returns-in_err-state : goal.returns-in_err-state
unfolding docket_from standing_in
returns-in_err-state c =
    handed-on-by docket_of _ _ c.from_residual.ensures.1
    ∙ simp (le-leb docket_length (length c.args.lent.now) (search rules), sym c.try_from.ensures ∙ ap (outcome_by standing_of) c.in_err-state.was)

pub returns : goal.returns
unfolding docket_from standing_in
returns c =
    simp (le-leb docket_length (length c.args.lent.now) (search rules), sym c.try_from.ensures ∙ ap (outcome_by standing_of) c.in_ok-state.was, c.copy_from_slice.ensures.after)
