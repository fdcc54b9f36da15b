-- Document 01, 'The docket': the plain docket, which is fed the offered slices in turn. 'All it has is the list of records it
-- took, empty at first.'
use Rattle.std.specs.Prelude.{Bool, cond, ◌&&◌, ◌||◌, List, [], ◌∷◌, ◌++◌, ℕ, ◌-◌, leb, eqb, length, get_or}
use Rattle.refusal.specs.Outcome.{Outcome, demand}
use Rattle.refusal.specs.Outcome.Outcome.{given, refused}
use Rattle.refusal.specs.Numbers.{number_of}
use Rattle.refusal.specs.declared.Refusal.TheVariants as refusal
use Rattle.judge.specs.Passing.{passed}
use Rattle.judge.specs.Repeats.{same_sample_of, agrees, acceptance_of}
use Rattle.docket.specs.Terms.{Standing, is_open, Reply, most_taken}
use Rattle.docket.specs.Terms.Standing.{«open», consistent, confirmed, unsettled}
use Rattle.docket.specs.Terms.Reply.{taken}

-- the last of the records it took, where it took any
unfoldable pub last_of : List (List ℕ) → List ℕ
last_of took = get_or took (length took - 1) []

-- the one before the last, where it took two or more
unfoldable pub before_last : List (List ℕ) → List ℕ
before_last took = get_or took (length took - 2) []

-- 'the last two agree'
abbrev pub last_two_agree : List (List ℕ) → Bool
last_two_agree took = agrees (before_last took) (last_of took)

-- 'While that is empty it is open. Otherwise it is consistent where the last of them has every check 0 or 1;'
-- 'else confirmed where it took two or more and the last two agree; else unsettled where it took three; else open.'
unfoldable pub plain_state : List (List ℕ) → Standing
plain_state took =
    cond (eqb (length took) 0) «open»
    (cond (passed (last_of took)) consistent
    (cond (leb 2 (length took) && last_two_agree took) confirmed
    (cond (eqb (length took) most_taken) unsettled
    «open»)))

-- 'A slice that the record's own tests refuse is answered with their number. Else, where it isn't open, the answer is 11.'
-- 'Else, where it took any and the slice differs from the last of them in what 12 compares, it is 12. Else the slice is taken'
unfoldable pub plain_answer_by : List (List ℕ) → List ℕ → Outcome (Unit {0}) → Outcome Reply
plain_answer_by took s (refused n) = refused n
plain_answer_by took s (given accepted) =
    demand (is_open (plain_state took)) (number_of refusal.DocketClosed)
    (demand (eqb (length took) 0 || same_sample_of (last_of took) s) (number_of refusal.OtherSample)
    (given taken))

unfoldable pub plain_answer : List (List ℕ) → List ℕ → Outcome Reply
plain_answer took s = plain_answer_by took s (acceptance_of s)

-- 'and put at the end'
unfoldable pub took_by : List (List ℕ) → List ℕ → Outcome Reply → List (List ℕ)
took_by took s (given taken) = took ++ (s ∷ [])
took_by took s (refused n) = took

abbrev pub took_next : List (List ℕ) → List ℕ → List (List ℕ)
took_next took s = took_by took s (plain_answer took s)

-- fed a list of slices in turn: the records it took, and its answers
unfoldable pub plain_after : List (List ℕ) → List (List ℕ) → List (List ℕ)
plain_after took [] = took
plain_after took (s ∷ offers) = plain_after (took_next took s) offers

unfoldable pub plain_answers : List (List ℕ) → List (List ℕ) → List (Outcome Reply)
plain_answers took [] = []
plain_answers took (s ∷ offers) = plain_answer took s ∷ plain_answers (took_next took s) offers
