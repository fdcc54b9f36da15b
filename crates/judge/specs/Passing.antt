-- Document 01, 'The docket': 'every check is 0 or 1'.
use Rattle.std.specs.Prelude.{Bool, false, ◌&&◌, List, ℕ, leb}
use Rattle.refusal.specs.Outcome.{Outcome}
use Rattle.refusal.specs.Outcome.Outcome.{given, refused}
use Rattle.judge.specs.Judgements.{Four, judgement_of}

-- not applicable or within
abbrev pub is_passed : ℕ → Bool
is_passed verdict = leb verdict 1

unfoldable pub all_passed : Four → Bool
all_passed v = is_passed v.balance && (is_passed v.conductivity && (is_passed v.ratio && is_passed v.nitrogen))

-- of a slice: no check is 0 or 1 where the record's own tests refuse it
abbrev pub passed_by : Outcome Four → Bool
passed_by (given v) = all_passed v
passed_by (refused n) = false

abbrev pub passed : List ℕ → Bool
passed s = passed_by (judgement_of s)
