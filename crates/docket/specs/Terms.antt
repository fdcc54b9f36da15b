-- Document 01, 'The docket': its terms, and what the values of this crate mean in them. The definitions of the other files
-- are in these terms alone.
use Rattle.std.specs.Prelude.{Bool, true, false, List, ℕ, Result}
use Rattle.refusal.specs.declared.Refusal.{Refusal}
use Rattle.refusal.specs.Outcome.{Outcome, outcome_by}
use Rattle.docket.specs.declared.State.{State}
use Rattle.docket.specs.declared.State.TheVariants as state
use Rattle.docket.specs.declared.Docket.{Docket}
use Rattle.docket.specs.declared.Offered.{Offered}

-- where a docket stands: 'open, consistent, confirmed or unsettled'
pub data Standing : Type 0 where
  «open» : Standing
  consistent : Standing
  confirmed : Standing
  unsettled : Standing

abbrev pub standing_of : State → Standing
standing_of state.Open = «open»
standing_of state.Consistent = consistent
standing_of state.Confirmed = confirmed
standing_of state.Unsettled = unsettled

abbrev pub is_open : Standing → Bool
is_open «open» = true
is_open consistent = false
is_open confirmed = false
is_open unsettled = false

-- a docket 'is open, consistent, confirmed or unsettled, has the count of analyses taken, and its last record'
pub record DocketTerms : Type 0 where
  pub state : Standing
  pub count : ℕ
  pub held : List ℕ

abbrev pub docket_of : Docket → DocketTerms
docket_of d = record { state = standing_of d.state; count = d.count; held = d.held }

-- an answer is 'taken or a refusal's number'
pub data Reply : Type 0 where
  taken : Reply

abbrev pub answer_outcome : Result (Unit {0}) Refusal → Outcome Reply
answer_outcome = outcome_by (λ accepted. taken)

-- the docket after an offer, and the answer
pub record OfferedTerms : Type 0 where
  pub docket : DocketTerms
  pub answer : Outcome Reply

abbrev pub offered_of : Offered → OfferedTerms
offered_of o = record { docket = docket_of o.docket; answer = answer_outcome o.answer }

-- 'it takes at most three'
abbrev pub most_taken : ℕ
most_taken = 3
