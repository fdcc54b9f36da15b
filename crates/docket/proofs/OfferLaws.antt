-- What is done at each turn of the way is the offer as defined. In that of a repeat the record held is never tested for
-- itself: its comparison with the repeat does that.
use mathlib.Core.Path.{◌≡◌, ◌∙◌}
use mathlib.Core.Bool.{Bool, true, false}
use mathlib.Core.List.{List}
use Prim.Native.Nat.{ℕ, ◌≤◌, ◌<◌}
use borrow.Author.Tests.{lt-ltb, le-ltb}
use Rattle.std.specs.Prelude.{Result, IsErrAnd}
use Rattle.std.proofs.lemmas.Result.{err_from_is_err_and}
use Rattle.refusal.specs.declared.Refusal.{Refusal}
use Rattle.refusal.specs.declared.Refusal.TheVariants as refusal
use Rattle.refusal.specs.Outcome.{Outcome, is_given}
use Rattle.refusal.specs.Outcome.Outcome.{given, refused}
use Rattle.refusal.specs.Numbers.{number_of}
use Rattle.judge.specs.Judgements.{Four, judgement_of}
use Rattle.judge.specs.Passing.{all_passed}
use Rattle.judge.specs.Repeats.{same_sample_of, agrees, acceptance_of, Compared, comparison_of}
use Rattle.judge.specs.Repeats.Compared.{other_sample, differing, agreeing}
use Rattle.judge.proofs.RepeatLaws.{Told, judged-accepts, told}
use Rattle.docket.specs.declared.Docket.{Docket}
use Rattle.docket.specs.Terms.{is_open, DocketTerms, OfferedTerms, most_taken}
use Rattle.docket.specs.Offers.{is_empty, admits, is_one_sample, answer_by, answer_of, is_confirming, taken_offer, refused_offer, offer_by, offer_of}
use Rattle.docket.specs.After.{offered_by}

module _ (d : DocketTerms) (s : List ℕ) where
  abbrev closed : OfferedTerms
  closed = refused_offer d (number_of refusal.DocketClosed)

  abbrev other : OfferedTerms
  other = refused_offer d (number_of refusal.OtherSample)

  -- whatever the docket, a record that its own tests refuse is answered by them
  pub own-refused : (r : Result Docket Refusal) (why : Refusal) → IsErrAnd r (λ e. e ≡ why) → acceptance_of s ≡ refused (number_of why)
      → offered_by d r ≡ offer_of d s
  unfolding offer_of offer_by answer_of answer_by
  own-refused r why is own = let p = err_from_is_err_and r is in rw (p.1, p.2, own)

  pub closed-refused : acceptance_of s ≡ given tt → is_open d.state ≡ false → closed ≡ offer_of d s
  unfolding offer_of offer_by answer_of answer_by admits
  closed-refused accepted shut = rw (accepted, shut)

  module _ (opened : is_open d.state ≡ true) {v : Four} (judged : judgement_of s ≡ given v) where
    pub first_taken : d.count ≡ 0 → {o : OfferedTerms} → o ≡ taken_offer d.count s (all_passed v) false → o ≡ offer_of d s
    unfolding offer_of offer_by answer_of answer_by admits is_one_sample is_confirming
    first_taken none is = is ∙ rw (judged-accepts s judged, opened, none, judged)

-- a repeat that its own tests accept, offered to an open docket that took something, and how it compares with the record held
pub record Repeated (d : DocketTerms) (s : List ℕ) (v : Four) (x : Outcome Compared) : Type 0 where
  pub opened : is_open d.state ≡ true
  pub some : is_empty d ≡ false
  pub judged : judgement_of s ≡ given v
  pub compared : x ≡ comparison_of d.held s

module _ {d : DocketTerms} {s : List ℕ} {v : Four} {x : Outcome Compared} (r : Repeated d s v x) where
  is-told : Told d.held s x
  is-told = told d.held s (judged-accepts s r.judged) r.compared

  pub full-refused : most_taken ≤ d.count → closed d s ≡ offer_of d s
  unfolding offer_of offer_by answer_of answer_by admits
  full-refused full = rw (judged-accepts s r.judged, r.opened, le-ltb d.count most_taken full)

  module _ (fewer : d.count < most_taken) where
    pub no-record-refused : {n : ℕ} → x ≡ refused n → closed d s ≡ offer_of d s
    unfolding offer_of offer_by answer_of answer_by admits
    no-record-refused is =
        let none = rw is at is-told in
        rw (judged-accepts s r.judged, r.opened, r.some, lt-ltb d.count most_taken fewer, none)

    pub other-refused : x ≡ given other_sample → other d s ≡ offer_of d s
    unfolding offer_of offer_by answer_of answer_by admits is_one_sample
    other-refused is =
        let known = rw is at is-told in
        rw (judged-accepts s r.judged, r.opened, r.some, lt-ltb d.count most_taken fewer, known.0, known.1)

    -- a repeat of the same sample, that agrees with the record held or not
    repeat-taken : {b : Bool} → is_given (acceptance_of d.held) ≡ true → same_sample_of d.held s ≡ true → agrees d.held s ≡ b
        → {o : OfferedTerms} → o ≡ taken_offer d.count s (all_passed v) b → o ≡ offer_of d s
    unfolding offer_of offer_by answer_of answer_by admits is_one_sample is_confirming
    repeat-taken held same agree o =
        o ∙ rw (judged-accepts s r.judged, r.opened, r.some, lt-ltb d.count most_taken fewer, held, same, r.judged, r.some, agree)

    pub agreeing-taken : x ≡ given agreeing → {o : OfferedTerms} → o ≡ taken_offer d.count s (all_passed v) true → o ≡ offer_of d s
    agreeing-taken is = let known = rw is at is-told in repeat-taken known.0 known.1 known.2

    pub differing-taken : x ≡ given differing → {o : OfferedTerms} → o ≡ taken_offer d.count s (all_passed v) false → o ≡ offer_of d s
    differing-taken is = let known = rw is at is-told in repeat-taken known.0 known.1 known.2
