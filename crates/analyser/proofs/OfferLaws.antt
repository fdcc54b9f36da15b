-- An offer to a docket lent as words is the offer to the docket that they hold, and so is a list of offers.
use mathlib.Core.Path.{◌≡◌, refl, sym, ap, ◌∙◌}
use mathlib.Core.List.{List, [], ◌∷◌, map}
use Prim.Native.Nat.{ℕ}
use Rattle.refusal.specs.Outcome.{Outcome}
use Rattle.refusal.specs.Outcome.Outcome.{given, refused}
use Rattle.refusal.specs.Lent.{lent_after}
use Rattle.refusal.proofs.Outcomes.{never}
use Rattle.judge.specs.Repeats.{acceptance_of}
use Rattle.judge.proofs.RepeatLaws.{accepted-valid}
use Rattle.docket.specs.Terms.{DocketTerms, Reply, OfferedTerms}
use Rattle.docket.specs.Terms.Reply.{taken}
use Rattle.docket.specs.Offers.{answer_by, answer_of, offer_by, offer_of}
use Rattle.docket.specs.Following.{docket_after, docket_answers}
use Rattle.analyser.specs.Codes.{code_of}
use Rattle.analyser.specs.DocketWords.{docket_from}
use Rattle.analyser.specs.LentDockets.{words_after, offered_words, lent_after_all, codes_of, LentLaws}
use Rattle.analyser.proofs.WordLaws.{read_back}

-- a record that its own tests refuse is answered with their number
pub refused-answer : (d : DocketTerms) (s : List ℕ) (n : ℕ) → acceptance_of s ≡ refused n → answer_of d s ≡ refused n
unfolding answer_of answer_by
refused-answer d s n e = simp e

-- the words hold a docket
module _ (lent : List ℕ) (d : DocketTerms) (held : docket_from lent ≡ given d) (s : List ℕ) where
  offered-by : (o : Outcome (Unit {0})) → acceptance_of s ≡ o → offered_words lent s ≡ words_after (offer_of d s)
  unfolding offered_words words_after offer_of offer_by
  offered-by (given accepted) e = simp (e, held)
  offered-by (refused n) e = simp (e, refused-answer d s n e)

  pub offered : offered_words lent s ≡ words_after (offer_of d s)
  offered = offered-by (acceptance_of s) refl

-- the code is that of the answer
code_by : (o : OfferedTerms) (a : Outcome Reply) → o.answer ≡ a → code_of (words_after o) ≡ code_of o.answer
unfolding words_after
code_by o (given taken) e = simp e
code_by o (refused n) e = simp e

module _ (lent : List ℕ) (d : DocketTerms) (held : docket_from lent ≡ given d) (s : List ℕ) where
  code : code_of (offered_words lent s) ≡ code_of (offer_of d s).answer
  code = ap code_of (offered lent d held s) ∙ code_by (offer_of d s) (offer_of d s).answer refl

  -- the words after it hold the docket after it
  next-by : (o : Outcome (Unit {0})) → acceptance_of s ≡ o → (a : Outcome Reply) → answer_of d s ≡ a
      → docket_from (lent_after (words_after (offer_of d s)) lent) ≡ given (offer_of d s).docket
  unfolding words_after offer_of offer_by
  next-by (given accepted) e (given taken) h = rw h (read_back _ (accepted-valid s e).words lent)
  next-by (refused n) e (given taken) h = never (sym (refused-answer d s n e) ∙ h)
  next-by o e (refused n) h = rw h held

  next : docket_from (lent_after (offered_words lent s) lent) ≡ given (offer_of d s).docket
  next = rw (offered lent d held s) (next-by (acceptance_of s) refl (answer_of d s) refl)

-- offers in turn
followed : (offers : List (List ℕ)) (lent : List ℕ) (d : DocketTerms) → docket_from lent ≡ given d
    → docket_from (lent_after_all lent offers) ≡ given (docket_after d offers)
unfolding lent_after_all docket_after
followed [] lent d held = held
followed (s ∷ offers) lent d held = followed offers (lent_after (offered_words lent s) lent) (offer_of d s).docket (next lent d held s)

answered : (offers : List (List ℕ)) (lent : List ℕ) (d : DocketTerms) → docket_from lent ≡ given d
    → codes_of lent offers ≡ map code_of (docket_answers d offers)
unfolding codes_of docket_answers
answered [] lent d held = refl
answered (s ∷ offers) lent d held =
    rw (code lent d held s, answered offers (lent_after (offered_words lent s) lent) (offer_of d s).docket (next lent d held s))

pub lent-laws : LentLaws
lent-laws =
    record {
      read_back = read_back;
      followed = λ lent d held offers. followed offers lent d held;
      answered = λ lent d held offers. answered offers lent d held;
    }
