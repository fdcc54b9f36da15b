-- Document 01, 'The docket', for a docket lent as words: a fresh one, and an offer.
use Rattle.std.specs.Prelude.{List, [], ◌∷◌, map, ◌≡◌, ℕ, length}
use Rattle.refusal.specs.Outcome.{Outcome}
use Rattle.refusal.specs.Outcome.Outcome.{given, refused}
use Rattle.refusal.specs.Lent.{fitting, lent_after}
use Rattle.record.specs.Record.{record_words}
use Rattle.judge.specs.Repeats.{acceptance_of}
use Rattle.docket.specs.Terms.{DocketTerms, Reply, OfferedTerms}
use Rattle.docket.specs.Terms.Reply.{taken}
use Rattle.docket.specs.Offers.{offer_of}
use Rattle.docket.specs.Following.{Fresh, docket_after, docket_answers}
use Rattle.analyser.specs.Codes.{code_of, and_then}
use Rattle.analyser.specs.DocketWords.{docket_words, docket_from}

-- a call for a fresh docket: what it returns, and the lent slice before and after. 'The record in a fresh docket' is left open;
-- it is some 26 words
pub record FreshLent (code : ℕ) (before after : List ℕ) : Type 0 where
  pub docket : DocketTerms
  pub fresh : Fresh docket
  pub whole : length docket.held ≡ record_words
  pub returned : code ≡ code_of (fitting (length before) (given (docket_words docket)))
  pub lent : after ≡ lent_after (fitting (length before) (given (docket_words docket))) before

-- the words of the docket after an offer that is taken
abbrev pub words_by : DocketTerms → Outcome Reply → Outcome (List ℕ)
words_by after (given taken) = given (docket_words after)
words_by after (refused n) = refused n

unfoldable pub words_after : OfferedTerms → Outcome (List ℕ)
words_after o = words_by o.docket o.answer

-- an offer to a lent docket: the record's own tests, 1 to 7; then what the lent slice must be to hold a docket, 13 and 11; then
-- the offer to that docket, 11 and 12. (13 cannot stand behind 11 and 12: without its words there is no docket to be tested)
unfoldable pub offered_words : List ℕ → List ℕ → Outcome (List ℕ)
offered_words lent s =
    and_then (acceptance_of s) (λ (accepted : Unit {0}).
    and_then (docket_from lent) (λ (d : DocketTerms).
    words_after (offer_of d s)))

-- offers in turn, each to the words that the one before left: what they are in the end, and what each call returned
unfoldable pub lent_after_all : List ℕ → List (List ℕ) → List ℕ
lent_after_all lent [] = lent
lent_after_all lent (s ∷ offers) = lent_after_all (lent_after (offered_words lent s) lent) offers

unfoldable pub codes_of : List ℕ → List (List ℕ) → List ℕ
codes_of lent [] = []
codes_of lent (s ∷ offers) = code_of (offered_words lent s) ∷ codes_of (lent_after (offered_words lent s) lent) offers

-- what a docket lent as words is worth: through every list of offers it is the docket that the list theorem is about
pub record LentLaws : Type 0 where
  -- a docket's words are read as that docket, whatever stands beyond them
  pub read_back : (d : DocketTerms) → length d.held ≡ record_words → (old : List ℕ) → docket_from (lent_after (given (docket_words d)) old) ≡ given d
  -- the words hold the docket that the offers leave, and the calls return the codes of its answers
  pub followed : (lent : List ℕ) (d : DocketTerms) → docket_from lent ≡ given d → (offers : List (List ℕ))
      → docket_from (lent_after_all lent offers) ≡ given (docket_after d offers)
  pub answered : (lent : List ℕ) (d : DocketTerms) → docket_from lent ≡ given d → (offers : List (List ℕ))
      → codes_of lent offers ≡ map code_of (docket_answers d offers)
