-- Any two batches, by how their own tests ended: the first's refusal comes before the second's.
use mathlib.Core.Path.{◌≡◌, refl, sym, ap, ◌∙◌}
use mathlib.Core.Bool.{true, true≢false}
use mathlib.Core.List.{List}
use Prim.Native.Nat.{ℕ}
use Rattle.refusal.specs.Outcome.{outcome_of, Outcome, is_given}
use Rattle.refusal.specs.Outcome.Outcome.{given, refused}
use Rattle.refusal.specs.Numbers.{number_of}
use Rattle.refusal.specs.declared.Refusal.{Refusal}
use Rattle.refusal.proofs.LentLaws.{Answers, refused-before}
use Rattle.refusal.proofs.Outcomes.{never}
use Rattle.std.specs.Prelude.{Result}
use Rattle.std.specs.Prelude.{Ok, Err}
use Rattle.batch.specs.Batches.{Batch, batch_of, tested_by, test_of}
use Rattle.joining.specs.Joins.{joined_by, joined_of}
use Rattle.joining.specs.Steps.{HasBatch}

tested-given : (x : Outcome Batch) → given tt ≡ tested_by x → is_given x ≡ true
tested-given (given b) e = refl
tested-given (refused n) e = never (sym e)

tested-refused : (x : Outcome Batch) (n : ℕ) → refused n ≡ tested_by x → x ≡ refused n
tested-refused (given b) n e = never e
tested-refused (refused m) n e = let same : m ≡ n = cc in ap refused same

module _ (s : List ℕ) {r : Result (Unit {0}) Refusal} (told : outcome_of r ≡ test_of s) where
  pub own-passes : r ≡ Ok tt → HasBatch s
  unfolding test_of
  own-passes is = tested-given (batch_of s) (sym (ap outcome_of is) ∙ told)

  own-refused : {why : Refusal} → r ≡ Err why → batch_of s ≡ refused (number_of why)
  unfolding test_of
  own-refused {why} is = tested-refused (batch_of s) (number_of why) (sym (ap outcome_of is) ∙ told)

-- where the first is refused, so are both; where the second is, so are both behind a first that passes
first-refuses : (x y : Outcome Batch) {n : ℕ} → x ≡ refused n → joined_by x y ≡ refused n
first-refuses x y e = rw e

second-refuses : (x y : Outcome Batch) {n : ℕ} → is_given x ≡ true → y ≡ refused n → joined_by x y ≡ refused n
second-refuses (given a) y h e = rw e
second-refuses (refused m) y h e = absurd (true≢false (sym h))

module _ (first second old : List ℕ) where
  pub first-own-refused : {r : Result (Unit {0}) Refusal} → outcome_of r ≡ test_of first → {why : Refusal} → r ≡ Err why
      → Answers (joined_of first second) old (refused (number_of why)) old
  unfolding joined_of
  first-own-refused told {why} is =
      refused-before (joined_of first second) old (number_of why) (sym (first-refuses (batch_of first) (batch_of second) (own-refused first told is)))

  pub second-own-refused : HasBatch first → {r : Result (Unit {0}) Refusal} → outcome_of r ≡ test_of second → {why : Refusal} → r ≡ Err why
      → Answers (joined_of first second) old (refused (number_of why)) old
  unfolding joined_of
  second-own-refused has told {why} is =
      refused-before (joined_of first second) old (number_of why) (sym (second-refuses (batch_of first) (batch_of second) has (own-refused second told is)))
