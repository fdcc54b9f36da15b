-- The words of a docket are read back as that docket; and what holds one is long enough.
use mathlib.Core.Path.{◌≡◌, refl}
use mathlib.Core.List.{List, ◌++◌}
use Prim.Native.Nat.{ℕ, ◌≤◌}
use native.Mathlib.Nat.{lt_of_not-le}
use native.Mathlib.Decide.{dec_le}
use native.Mathlib.Omega.{arith}
use lib.ListN.{length, drop, length-append}
use lib.Seq.{take_at}
use borrow.Author.Tests.{le-leb, lt-leb}
use Rattle.refusal.specs.Outcome.Outcome.{given}
use Rattle.refusal.proofs.Outcomes.{never}
use Rattle.record.specs.Record.{record_words}
use Rattle.docket.specs.Terms.{Standing, DocketTerms}
use Rattle.docket.specs.Terms.Standing.{«open», consistent, confirmed, unsettled}
use Rattle.docket.specs.Numbers.{standing_number, standing_from}
use Rattle.analyser.specs.DocketWords.{docket_words, docket_length, standing_in, docket_from}

-- the way back
standing-back : (s : Standing) → standing_from (standing_number s) ≡ given s
unfolding standing_from
standing-back «open» = refl
standing-back consistent = refl
standing-back confirmed = refl
standing-back unsettled = refl

module _ (d : DocketTerms) (whole : length d.held ≡ record_words) (old : List ℕ) where
  abbrev rest : List ℕ
  rest = drop (length (docket_words d)) old

  enough : docket_length ≤ length (docket_words d ++ rest)
  enough = omega (arith, length-append (docket_words d) rest)

  pub read_back : docket_from (docket_words d ++ rest) ≡ given d
  unfolding docket_from standing_in
  read_back = simp (le-leb docket_length (length (docket_words d ++ rest)) enough, standing-back d.state, take_at d.held rest record_words whole)

-- a slice that holds a docket has room for its words
pub held-long : (lent : List ℕ) (d : DocketTerms) → docket_from lent ≡ given d → docket_length ≤ length lent
unfolding docket_from standing_in
held-long lent d e = go (dec_le docket_length (length lent))
  where
    go : Dec (docket_length ≤ length lent) → docket_length ≤ length lent
    go (yes l) = l
    go (no f) = never (rw (lt-leb docket_length (length lent) (lt_of_not-le f)) at e)
