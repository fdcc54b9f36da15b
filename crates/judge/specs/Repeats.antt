-- Document 01, 'The docket': what a docket asks of the judge beside the verdicts of a record. What these questions need of a
-- record and of two that agree is passed on, so that the crate above names no other than this one.
use Rattle.std.specs.Prelude.{Bool, cond, List, ℕ, Result}
use Rattle.refusal.specs.declared.Refusal.{Refusal}
use Rattle.refusal.specs.Outcome.{Outcome, outcome_by}
use Rattle.refusal.specs.Outcome.Outcome.{given, refused}
use Rattle.record.specs.Record.{accepted}
use Rattle.agreement.specs.Agreement.{agreement_of}
use Rattle.judge.specs.declared.Comparison.{Comparison}
use Rattle.judge.specs.declared.Comparison.TheVariants as comparison
pub use Rattle.record.specs.Record.{record_words}
unfoldable pub use Rattle.record.specs.Record.{same_sample_of}
unfoldable pub use Rattle.agreement.specs.Agreement.{agrees}

-- 'the record's own tests' alone: nothing is told but that they accept it, or the number of the first that refuses it
unfoldable pub acceptance_of : List ℕ → Outcome (Unit {0})
acceptance_of s = accepted s (given tt)

-- how a repeat compares with the record before it: it 'differs .. in what 12 compares', or is of the same sample and agrees or not
pub data Compared : Type 0 where
  other_sample : Compared
  differing : Compared
  agreeing : Compared

abbrev pub compared_in : Comparison → Compared
compared_in comparison.Agree = agreeing
compared_in comparison.Differ = differing
compared_in comparison.OtherSample = other_sample

abbrev pub comparison_outcome : Result Comparison Refusal → Outcome Compared
comparison_outcome = outcome_by compared_in

-- by whether they agree, or why that is not told, and whether they are of one sample
abbrev pub compared_by : Outcome Bool → Bool → Outcome Compared
compared_by (given agree) same = given (cond same (cond agree agreeing differing) other_sample)
compared_by (refused n) same = refused n

-- of any two slices: the first is tested, then the second
unfoldable pub comparison_of : List ℕ → List ℕ → Outcome Compared
comparison_of s t = compared_by (agreement_of s t) (same_sample_of s t)
