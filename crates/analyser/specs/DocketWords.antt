-- A docket lent as words by a program in C: where it stands, its count, and the words of its last record. Document 01 does not
-- define these words; the numbers of the four states are in the order in which it names them.
use Rattle.std.specs.Prelude.{List, ◌∷◌, ℕ, ◌+◌, leb, length, get_or, take, drop}
use Rattle.refusal.specs.Outcome.{Outcome, demand}
use Rattle.refusal.specs.Outcome.Outcome.{given}
use Rattle.refusal.specs.Numbers.{number_of}
use Rattle.refusal.specs.declared.Refusal.TheVariants as refusal
use Rattle.record.specs.Record.{record_words}
use Rattle.docket.specs.Terms.{Standing, DocketTerms}
use Rattle.docket.specs.Numbers.{standing_number, standing_from}
use Rattle.analyser.specs.Codes.{and_then}

abbrev pub docket_words : DocketTerms → List ℕ
docket_words d = standing_number d.state ∷ d.count ∷ d.held

-- as many as that
abbrev pub docket_length : ℕ
docket_length = 2 + record_words

-- where the docket of a lent slice stands; a slice that is too short for a docket is refused 13
unfoldable pub standing_in : List ℕ → Outcome Standing
standing_in lent = demand (leb docket_length (length lent)) (number_of refusal.OutputLength) (standing_from (get_or lent 0 0))

-- a docket that stands there, with the count and the record of a lent slice
abbrev pub docket_at : Standing → List ℕ → DocketTerms
docket_at state lent = record { state = state; count = get_or lent 1 0; held = take record_words (drop 2 lent) }

-- the docket that a lent slice holds in its first words
unfoldable pub docket_from : List ℕ → Outcome DocketTerms
docket_from lent = and_then (standing_in lent) (λ (state : Standing). given (docket_at state lent))
