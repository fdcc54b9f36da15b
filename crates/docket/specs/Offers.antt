-- Document 01, 'The docket' and 'Refusals that come from the state': what an offer gives.
use Rattle.std.specs.Prelude.{Bool, cond, not, ◌&&◌, ◌||◌, List, ℕ, ◌+◌, ltb, eqb}
use Rattle.refusal.specs.Outcome.{Outcome, demand, is_given}
use Rattle.refusal.specs.Outcome.Outcome.{given, refused}
use Rattle.refusal.specs.Numbers.{number_of}
use Rattle.refusal.specs.declared.Refusal.TheVariants as refusal
use Rattle.judge.specs.Passing.{passed}
use Rattle.judge.specs.Repeats.{same_sample_of, agrees, acceptance_of}
use Rattle.docket.specs.Terms.{Standing, is_open, DocketTerms, Reply, OfferedTerms, most_taken}
use Rattle.docket.specs.Terms.Standing.{«open», consistent, confirmed, unsettled}
use Rattle.docket.specs.Terms.Reply.{taken}

-- it took nothing
abbrev pub is_empty : DocketTerms → Bool
is_empty d = eqb d.count 0

-- 11: the 'docket closed', or 'open with a count above 2, or with a count of 1 or 2 and a held record that the record's own
-- tests refuse, which no offers produce'
unfoldable pub admits : DocketTerms → Bool
admits d = is_open d.state && (ltb d.count most_taken && (is_empty d || is_given (acceptance_of d.held)))

-- 12: 'the count is 1 or 2 and number or kind differs from the record held'
unfoldable pub is_one_sample : DocketTerms → List ℕ → Bool
is_one_sample d s = is_empty d || same_sample_of d.held s

-- 'an offer then 11, 12', after the record's own tests
unfoldable pub answer_by : DocketTerms → List ℕ → Outcome (Unit {0}) → Outcome Reply
answer_by d s (refused n) = refused n
answer_by d s (given accepted) =
    demand (admits d) (number_of refusal.DocketClosed)
    (demand (is_one_sample d s) (number_of refusal.OtherSample)
    (given taken))

unfoldable pub answer_of : DocketTerms → List ℕ → Outcome Reply
answer_of d s = answer_by d s (acceptance_of s)

-- where a docket stands with its count-th analysis.
-- 'If every check is 0 or 1, it closes as consistent.'
-- 'Else, if it is the second or third and agrees with the one before, it closes as confirmed.'
-- 'Else, if it is the third, it closes as unsettled. Else it stays open.'
unfoldable pub standing_after : ℕ → Bool → Bool → Standing
standing_after count passes confirms =
    cond passes consistent
    (cond confirms confirmed
    (cond (eqb count most_taken) unsettled
    «open»))

-- it 'is the second or third and agrees with the one before'
unfoldable pub is_confirming : DocketTerms → List ℕ → Bool
is_confirming d s = not (is_empty d) && agrees d.held s

-- after so many were taken: 'the count rises by one and the record is held'
abbrev pub taken_offer : ℕ → List ℕ → Bool → Bool → OfferedTerms
taken_offer earlier s passes confirms =
    record {
      docket = record { state = standing_after (earlier + 1) passes confirms; count = earlier + 1; held = s };
      answer = given taken;
    }

-- a refusal: 'nothing else changes'
abbrev pub refused_offer : DocketTerms → ℕ → OfferedTerms
refused_offer d n = record { docket = d; answer = refused n }

-- 'An offer that isn't refused is taken'
unfoldable pub offer_by : DocketTerms → List ℕ → Outcome Reply → OfferedTerms
offer_by d s (given taken) = taken_offer d.count s (passed s) (is_confirming d s)
offer_by d s (refused n) = refused_offer d n

unfoldable pub offer_of : DocketTerms → List ℕ → OfferedTerms
offer_of d s = offer_by d s (answer_of d s)
