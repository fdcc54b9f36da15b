-- The list theorem, by induction on the offers. What is kept from offer to offer is `Tracks`.
use mathlib.Core.Path.{◌≡◌, refl, sym, ap, ◌∙◌}
use mathlib.Core.Bool.{Bool, true, false, not, ◌&&◌, ◌||◌}
use mathlib.Core.List.{List, [], ◌∷◌, ◌++◌}
use Prim.Native.Nat.{ℕ, ◌+◌, ◌≤◌, ◌<◌}
use native.Mathlib.Omega.{arith}
use lib.Dec.{ltb, leb, eqb}
use lib.ListN.{length}
use borrow.Author.Tests.{ne_eqb, lt-ltb, lt-leb, le-leb, eqb-true, eqb-false}
use Rattle.refusal.specs.Outcome.{Outcome, is_given}
use Rattle.refusal.specs.Outcome.Outcome.{given, refused}
use Rattle.judge.specs.Passing.{passed}
use Rattle.judge.specs.Repeats.{same_sample_of, agrees, acceptance_of}
use Rattle.docket.specs.Terms.{is_open, DocketTerms, Reply, most_taken}
use Rattle.docket.specs.Terms.Reply.{taken}
use Rattle.docket.specs.Offers.{admits, is_one_sample, answer_by, answer_of, standing_after, is_confirming, offer_by, offer_of}
use Rattle.docket.specs.Plain.{last_of, before_last, plain_state, plain_answer_by, plain_answer, took_by, took_next, plain_after, plain_answers}
use Rattle.docket.specs.Following.{Fresh, docket_after, docket_answers, taken_in, ListTheorem}
use Rattle.docket.proofs.TakenLaws.{taken-accepted, taken-fewer}
use Rattle.docket.proofs.PlainLaws.{length_more, last_more, before_more, open_is, open-fewer, consistent-when, confirmed-when, unsettled-when}

-- the docket d is where the plain docket that took these records is
record Tracks (d : DocketTerms) (took : List (List ℕ)) : Type 0 where
  state : d.state ≡ plain_state took
  count : d.count ≡ length took
  most : length took ≤ most_taken
  held : 0 < length took → d.held ≡ last_of took
  accepted : 0 < length took → is_given (acceptance_of (last_of took)) ≡ true

-- an open one took fewer than three
open-below : (took : List (List ℕ)) → length took ≤ most_taken → is_open (plain_state took) ≡ true → length took < most_taken
open-below took h e = omega (arith, open-fewer took (plain_state took) refl (open_is (plain_state took) e))

module _ (d : DocketTerms) (took : List (List ℕ)) (t : Tracks d took) where
  -- the two tests of an offer: 11
  held-accepted : (empty : Bool) → eqb (length took) 0 ≡ empty → (empty || is_given (acceptance_of d.held)) ≡ true
  held-accepted true e = refl
  held-accepted false e =
      let h : 0 < length took = omega (arith, eqb-false (length took) 0 e) in
      rw (t.held h) (t.accepted h)

  admits-by : (opened : Bool) → is_open (plain_state took) ≡ opened
      → (opened && (ltb (length took) most_taken && (eqb (length took) 0 || is_given (acceptance_of d.held)))) ≡ opened
  admits-by true e = rw (lt-ltb (length took) most_taken (open-below took t.most e)) (held-accepted (eqb (length took) 0) refl)
  admits-by false e = refl

  admits-same : admits d ≡ is_open (plain_state took)
  unfolding admits
  admits-same = rw (t.state, t.count) (admits-by (is_open (plain_state took)) refl)

  module _ (s : List ℕ) where
    -- and 12
    sample-by : (empty : Bool) → eqb (length took) 0 ≡ empty → (empty || same_sample_of d.held s) ≡ (empty || same_sample_of (last_of took) s)
    sample-by true e = refl
    sample-by false e = rw (t.held (omega (arith, eqb-false (length took) 0 e)))

    sample-same : is_one_sample d s ≡ (eqb (length took) 0 || same_sample_of (last_of took) s)
    unfolding is_one_sample
    sample-same = rw t.count (sample-by (eqb (length took) 0) refl)

    answer-by : (o : Outcome (Unit {0})) → answer_by d s o ≡ plain_answer_by took s o
    unfolding answer_by plain_answer_by
    answer-by (given accepted) = rw (admits-same, sample-same)
    answer-by (refused n) = refl

    answer-same : answer_of d s ≡ plain_answer took s
    unfolding answer_of plain_answer
    answer-same = answer-by (acceptance_of s)

    -- a record is taken
    abbrev more : List (List ℕ)
    more = took ++ (s ∷ [])

    confirms-by : (empty : Bool) → eqb (length took) 0 ≡ empty
        → (not empty && agrees d.held s) ≡ (leb 2 (length took + 1) && agrees (before_last more) s)
    confirms-by true e = rw (lt-leb 2 (length took + 1) (omega (arith, eqb-true (length took) 0 e)))
    confirms-by false e =
        let h : 0 < length took = omega (arith, eqb-false (length took) 0 e) in
        rw (le-leb 2 (length took + 1) (omega arith), before_more took s h, t.held h)

    confirms-same : is_confirming d s ≡ (leb 2 (length took + 1) && agrees (before_last more) s)
    unfolding is_confirming
    confirms-same = rw t.count (confirms-by (eqb (length took) 0) refl)

    state-same : standing_after (d.count + 1) (passed s) (is_confirming d s) ≡ plain_state more
    unfolding standing_after plain_state
    state-same =
        simp (
          confirms-same,
          t.count,
          length_more took s,
          last_more took s,
          ne_eqb (length took + 1) 0 (λ z. omega arith),
        )

    -- the docket after an offer
    next-by : (a : Outcome Reply) → answer_of d s ≡ a → Tracks (offer_by d s a).docket (took_by took s a)
    unfolding offer_by took_by
    next-by (given taken) e =
        record {
          state = state-same;
          count = omega (arith, t.count, length_more took s);
          most = omega (arith, t.count, length_more took s, taken-fewer d s e);
          held = λ _. sym (last_more took s);
          accepted = λ _. rw (last_more took s) (taken-accepted d s e);
        }
    next-by (refused n) e = t

    next : Tracks (offer_of d s).docket (took_next took s)
    unfolding offer_of
    next = rw (← answer-same) (next-by (answer_of d s) refl)

-- every list of offers
answer-of : (d : DocketTerms) (s : List ℕ) (a : Outcome Reply) → (offer_by d s a).answer ≡ a
unfolding offer_by
answer-of d s (given taken) = refl
answer-of d s (refused n) = refl

answers-same : (offers : List (List ℕ)) (d : DocketTerms) (took : List (List ℕ)) → Tracks d took
    → docket_answers d offers ≡ plain_answers took offers
unfolding docket_answers plain_answers offer_of
answers-same [] d took t = refl
answers-same (s ∷ offers) d took t =
    rw (
      answers-same offers (offer_of d s).docket (took_next took s) (next d took t s),
      answer-of d s (answer_of d s),
      answer-same d took t s,
    )

tracks-after : (offers : List (List ℕ)) (d : DocketTerms) (took : List (List ℕ)) → Tracks d took
    → Tracks (docket_after d offers) (plain_after took offers)
unfolding docket_after plain_after
tracks-after [] d took t = t
tracks-after (s ∷ offers) d took t = tracks-after offers _ _ (next d took t s)

-- the records that the plain docket took are as many as its answers 'taken'
one-counted : (took : List (List ℕ)) (s : List ℕ) (a : Outcome Reply) (answers : List (Outcome Reply))
    → taken_in (a ∷ answers) + length took ≡ taken_in answers + length (took_by took s a)
unfolding taken_in took_by
one-counted took s (given taken) answers = omega (arith, length_more took s)
one-counted took s (refused n) answers = refl

all-counted : (offers : List (List ℕ)) (took : List (List ℕ))
    → length (plain_after took offers) ≡ taken_in (plain_answers took offers) + length took
unfolding plain_after plain_answers taken_in
all-counted [] took = omega arith
all-counted (s ∷ offers) took =
    all-counted offers (took_next took s) ∙ sym (one-counted took s (plain_answer took s) (plain_answers (took_next took s) offers))

at_first : (d : DocketTerms) → Fresh d → Tracks d []
unfolding plain_state
at_first d f =
    record {
      state = f.state;
      count = f.count;
      most = omega arith;
      held = λ h. absurd (omega arith);
      accepted = λ h. absurd (omega arith);
    }

pub list-theorem : ListTheorem
list-theorem d f offers =
    let first : Tracks d [] = at_first d f in
    let t : Tracks (docket_after d offers) (plain_after [] offers) = tracks-after offers d [] first in
    let same : docket_answers d offers ≡ plain_answers [] offers = answers-same offers d [] first in
    record {
      answered = same;
      state = t.state;
      count = t.count;
      counted = omega (arith, t.count, all-counted offers [], ap taken_in same);
      most = omega (arith, t.count, t.most);
      closed = λ n e. open-fewer (plain_after [] offers) (docket_after d offers).state t.state e (sym t.count ∙ n);
      held = λ h. t.held (omega (arith, t.count));
      consistent-when = consistent-when (plain_after [] offers) (docket_after d offers).state t.state;
      confirmed-when = confirmed-when (plain_after [] offers) (docket_after d offers).state t.state;
      unsettled-when = unsettled-when (plain_after [] offers) (docket_after d offers).state t.state;
    }
