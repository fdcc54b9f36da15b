-- What a batch's answer leaves in a slice that has room for every answer: no answer is refused for want of room.
use mathlib.Core.Path.{◌≡◌}
use mathlib.Core.List.{List}
use Prim.Native.Nat.{ℕ, ◌≤◌}
use native.Mathlib.Omega.{arith}
use lib.ListN.{length, take}
use Rattle.refusal.specs.Outcome.Outcome.{given, refused}
use Rattle.refusal.specs.Lent.{fitting, length_of, lent_after}
use Rattle.refusal.proofs.LentLaws.{told-answer, told-refusal}
use Rattle.batch.specs.Rows.{most_answer, batch_answer, Listed}
use Rattle.batch.proofs.Laws.{answer-listed}

-- the answer to a batch of the words s, in a slice that held `old`
module _ (s old : List ℕ) where
  pub answered : {n : ℕ} {out : List ℕ} → given n ≡ length_of (fitting (length old) (batch_answer s)) → out ≡ lent_after (fitting (length old) (batch_answer s)) old
      → Listed (take n out) × (batch_answer s ≡ given (take n out))
  answered e o = let told = told-answer old (batch_answer s) e o in (answer-listed s _ told.0, told.0)

  pub unanswered : {n : ℕ} → most_answer ≤ length old → refused n ≡ length_of (fitting (length old) (batch_answer s)) → batch_answer s ≡ refused n
  unanswered room e = told-refusal (batch_answer s) (length old) (λ w is. let l = answer-listed s w is in omega (arith, l.size, l.count, room)) e
