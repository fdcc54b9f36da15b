-- Document 01, 'The docket': the claim about every list of offers, 'a single claim about the whole list, not one for each offer'.
use Rattle.std.specs.Prelude.{true, List, [], ◌∷◌, ◌↔◌, ◌≢◌, ◌≡◌, ℕ, ◌+◌, ◌≤◌, ◌<◌, length}
use Rattle.refusal.specs.Outcome.{Outcome}
use Rattle.refusal.specs.Outcome.Outcome.{given, refused}
use Rattle.judge.specs.Passing.{passed}
use Rattle.docket.specs.Terms.{DocketTerms, Reply, most_taken}
use Rattle.docket.specs.Terms.Standing.{«open», consistent, confirmed, unsettled}
use Rattle.docket.specs.Offers.{offer_of}
use Rattle.docket.specs.Plain.{last_of, last_two_agree, plain_state, plain_after, plain_answers}

-- 'A fresh docket is open with count 0, whatever record it holds.'
pub record Fresh (d : DocketTerms) : Type 0 where
  pub state : d.state ≡ «open»
  pub count : d.count ≡ 0

-- 'Each offer gets the docket that the one before returned': the last docket, and the answers
unfoldable pub docket_after : DocketTerms → List (List ℕ) → DocketTerms
docket_after d [] = d
docket_after d (s ∷ offers) = docket_after (offer_of d s).docket offers

unfoldable pub docket_answers : DocketTerms → List (List ℕ) → List (Outcome Reply)
docket_answers d [] = []
docket_answers d (s ∷ offers) = (offer_of d s).answer ∷ docket_answers (offer_of d s).docket offers

-- how many offers were taken
unfoldable pub taken_in : List (Outcome Reply) → ℕ
taken_in [] = 0
taken_in (given r ∷ answers) = taken_in answers + 1
taken_in (refused n ∷ answers) = taken_in answers

-- after a list of offers: a docket and its answers, beside the records that the plain docket took and its answers
pub record Followed
    (after : DocketTerms) (answers : List (Outcome Reply)) (took : List (List ℕ)) (plain : List (Outcome Reply)) : Type 0 where
  -- 'every answer, taken or a refusal's number, is the plain docket's'
  pub answered : answers ≡ plain
  -- 'the state is the plain docket's'
  pub state : after.state ≡ plain_state took
  -- 'the count is how many records the plain docket took', which is how many offers were taken
  pub count : after.count ≡ length took
  pub counted : after.count ≡ taken_in answers
  -- 'it takes at most three', and after the third it is closed
  pub most : after.count ≤ most_taken
  pub closed : after.count ≡ most_taken → after.state ≢ «open»
  -- 'the held record, with a count above 0, is the last of those, word for word'
  pub held : 0 < after.count → after.held ≡ last_of took
  -- consistent exactly where it took any and the last it took has every check 0 or 1
  pub consistent-when : (after.state ≡ consistent) ↔ ((0 < length took) × (passed (last_of took) ≡ true))
  -- confirmed exactly where it isn't consistent, and it took two or more and the last two agree
  pub confirmed-when : (after.state ≡ confirmed) ↔ ((after.state ≢ consistent) × (2 ≤ length took) × (last_two_agree took ≡ true))
  -- unsettled exactly where it took three and is neither
  pub unsettled-when : (after.state ≡ unsettled) ↔ ((after.state ≢ consistent) × (after.state ≢ confirmed) × (length took ≡ most_taken))

-- THE LIST THEOREM: it is so of every fresh docket, whatever record it holds, and every list of offers, whatever their words
abbrev pub ListTheorem : Type 0
ListTheorem =
    (d : DocketTerms) → Fresh d → (offers : List (List ℕ))
    → Followed (docket_after d offers) (docket_answers d offers) (plain_after [] offers) (plain_answers [] offers)
