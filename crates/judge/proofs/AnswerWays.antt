-- The ways of a tested record through the code: its verdicts by the checks, and its answer by how its own tests ended.
use mathlib.Core.Path.{◌≡◌, refl, sym, ap, ◌∙◌}
use mathlib.Core.List.{List}
use Prim.Native.Nat.{ℕ}
use Rattle.refusal.specs.Outcome.{outcome_of, outcome_by}
use Rattle.refusal.specs.Outcome.Outcome.{given, refused}
use Rattle.refusal.specs.Numbers.{number_of}
use Rattle.refusal.specs.declared.Refusal.{Refusal}
use Rattle.std.specs.Prelude.{Result, Ok, Err}
use Rattle.record.specs.declared.TestedRecord.{TestedRecord}
use Rattle.record.specs.Record.{ammonium, sodium, nitrate, chloride, total_nitrogen, organic_carbon}
use Rattle.record.specs.Tested.{Fields, analyte_at, fields_in, terms_of, accepted_of}
use Rattle.record.proofs.AcceptedLaws.{accepted-given, valid-accepted, refused-for-all}
use Rattle.solution.specs.Solutions.{SumRanges}
use Rattle.solution.specs.ByValue.{sum_ranges_by}
use Rattle.judge.specs.Judgements.{Four}
use Rattle.judge.specs.ByValue.{balance_in, conductivity_in, ratio_in, nitrogen_in, verdicts_in, judged_of}
use Rattle.judge.specs.Repeats.{acceptance_of}

-- the checks are handed the sums of fields, and their verdicts are those by value
module _ (f : Fields) (floor : ℕ) {x : SumRanges} (made : x ≡ sum_ranges_by f floor) where
  pub verdicts-made : {balance conductivity ratio nitrogen : ℕ}
      → balance ≡ balance_in f.kind (analyte_at f.analytes organic_carbon) f.conductivity x
      → conductivity ≡ conductivity_in f.conductivity x
      → ratio ≡ ratio_in f.kind (analyte_at f.analytes sodium) (analyte_at f.analytes chloride) x
      → nitrogen ≡ nitrogen_in (analyte_at f.analytes total_nitrogen) (analyte_at f.analytes nitrate) (analyte_at f.analytes ammonium) x
      → record { balance = balance; conductivity = conductivity; ratio = ratio; nitrogen = nitrogen } ≡ verdicts_in f (sum_ranges_by f floor)
  verdicts-made a b c d = cc

-- the verdicts, or why there are none
module _ (own : TestedRecord) where
  pub is-judged : {floor : ℕ} {v : Four} → own.tested ≡ Ok floor → v ≡ verdicts_in (fields_in own) (sum_ranges_by (fields_in own) floor) → given v ≡ judged_of (terms_of own)
  unfolding judged_of
  is-judged e p = rw e (ap (λ (x : Four). given x) p)

  pub is-refused : {why : Refusal} → own.tested ≡ Err why → refused (number_of why) ≡ judged_of (terms_of own)
  unfolding judged_of
  is-refused e = rw e

-- the record's own tests alone
module _ (s : List ℕ) {r : Result ℕ Refusal} (told : outcome_of r ≡ accepted_of s) where
  pub accepts : {floor : ℕ} → r ≡ Ok floor → given tt ≡ acceptance_of s
  unfolding acceptance_of
  accepts {floor} e = sym (valid-accepted s (given tt) (accepted-given s _ floor (sym told ∙ ap outcome_of e)).0)

  pub refuses : {why : Refusal} → r ≡ Err why → refused (number_of why) ≡ acceptance_of s
  unfolding acceptance_of
  refuses {why} e = sym (refused-for-all s _ (number_of why) (sym told ∙ ap outcome_of e) (given tt))

-- whichever way they ended
pub acceptance_told : (s : List ℕ) (r : Result ℕ Refusal) → outcome_of r ≡ accepted_of s → outcome_by (λ (floor : ℕ). tt) r ≡ acceptance_of s
acceptance_told s (Ok floor) told = accepts s told refl
acceptance_told s (Err why) told = refuses s told refl
