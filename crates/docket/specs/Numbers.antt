-- The number of a state, its place in the order in which document 01 names the four, and its word there.
use Rattle.std.specs.Prelude.{cond, List, ℕ, eqb, codes}
use Rattle.refusal.specs.Outcome.{Outcome}
use Rattle.refusal.specs.Outcome.Outcome.{given, refused}
use Rattle.refusal.specs.Numbers.{number_of}
use Rattle.refusal.specs.declared.Refusal.TheVariants as refusal
use Rattle.docket.specs.Terms.{Standing}
use Rattle.docket.specs.Terms.Standing.{«open», consistent, confirmed, unsettled}

-- 'open, consistent, confirmed or unsettled'
abbrev pub standing_number : Standing → ℕ
standing_number «open» = 0
standing_number consistent = 1
standing_number confirmed = 2
standing_number unsettled = 3

-- the way back: no offers produce a state of another number, so it is refused 11
unfoldable pub standing_from : ℕ → Outcome Standing
standing_from n =
    cond (eqb n 0) (given «open»)
    (cond (eqb n 1) (given consistent)
    (cond (eqb n 2) (given confirmed)
    (cond (eqb n 3) (given unsettled)
    (refused (number_of refusal.DocketClosed)))))

-- the word for it, as text
abbrev pub standing_word : Standing → List ℕ
standing_word «open» = codes "open"
standing_word consistent = codes "consistent"
standing_word confirmed = codes "confirmed"
standing_word unsettled = codes "unsettled"
