-- What it tells of an offer that it is taken: the record's own tests accept the record, and the docket admits it.
use mathlib.Core.Path.{◌≡◌, refl}
use mathlib.Core.Bool.{true, ◌||◌}
use mathlib.Core.List.{List, [], ◌∷◌}
use Prim.Native.Nat.{ℕ, ◌<◌}
use lib.Dec.{ltb}
use borrow.Author.Tests.{ltb-true}
use Rattle.refusal.specs.Outcome.{Outcome, is_given}
use Rattle.refusal.specs.Outcome.Outcome.{given, refused}
use Rattle.judge.specs.Repeats.{acceptance_of}
use Rattle.docket.specs.Terms.{is_open, DocketTerms, most_taken}
use Rattle.docket.specs.Terms.Reply.{taken}
use Rattle.docket.specs.Offers.{is_empty, admits, is_one_sample, answer_by, answer_of}
use Rattle.refusal.proofs.Outcomes.{never}
use Rattle.refusal.proofs.Rows.{row-given}
use Rattle.refusal.proofs.Testing.{both}

module _ (d : DocketTerms) (s : List ℕ) where
  taken-by : (o : Outcome (Unit {0})) → answer_by d s o ≡ given taken → (is_given o ≡ true) × (admits d ≡ true)
  unfolding answer_by
  taken-by (given v) e = (refl, (row-given ((admits d, _) ∷ (is_one_sample d s, _) ∷ []) (given taken) taken e).0.0)
  taken-by (refused n) e = never e

  module _ (e : answer_of d s ≡ given taken) where
    pub taken-accepted : is_given (acceptance_of s) ≡ true
    unfolding answer_of
    taken-accepted = (taken-by (acceptance_of s) e).0

    admitted : (ltb d.count most_taken ≡ true) × ((is_empty d || is_given (acceptance_of d.held)) ≡ true)
    unfolding answer_of admits
    admitted = both _ _ (both (is_open d.state) _ (taken-by (acceptance_of s) e).1).1

    pub taken-fewer : d.count < most_taken
    taken-fewer = ltb-true d.count most_taken admitted.0

    pub taken-held : (is_empty d || is_given (acceptance_of d.held)) ≡ true
    taken-held = admitted.1
