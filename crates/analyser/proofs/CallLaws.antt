-- What a call answers, returns and leaves in the lent slice, by what was to be answered.
use mathlib.Core.Path.{◌≡◌, refl, sym, ap, ◌∙◌, subst}
use mathlib.Core.List.{List}
use Prim.Native.Nat.{ℕ, ◌≤◌}
use Rattle.std.specs.Prelude.{Result, IsErrAnd}
use lib.ListN.{length}
use borrow.Author.Tests.{le-leb}
use Rattle.refusal.specs.declared.Refusal.{Refusal}
use Rattle.refusal.specs.Numbers.{number_of}
use Rattle.refusal.specs.Outcome.{Outcome, outcome_of}
use Rattle.refusal.specs.Outcome.Outcome.{given, refused}
use Rattle.refusal.specs.Lent.{fitting, lent_after, length_of}
use Rattle.refusal.proofs.Outcomes.{handed-on}
use Rattle.analyser.specs.Codes.{code_of, size_after, told_size}

-- the answer, and the slice after the call, which held old before
abbrev pub Answered : Outcome (List ℕ) → List ℕ → Outcome ℕ → List ℕ → Type 0
Answered o old w after = (w ≡ length_of o) × (after ≡ lent_after o old)

module _ (old : List ℕ) {o : Outcome (List ℕ)} where
  pub same_answer : {o' : Outcome (List ℕ)} {w : Outcome ℕ} {after : List ℕ} → o ≡ o' → Answered o' old w after → Answered o old w after
  same_answer {w = w} {after = after} e said = subst (λ (x : Outcome (List ℕ)). Answered x old w after) (sym e) said

  -- with the test for room, which is the last
  pub same-fitting : {o' : Outcome (List ℕ)} {w : Outcome ℕ} {after : List ℕ} → o ≡ o'
      → Answered (fitting (length old) o') old w after → Answered (fitting (length old) o) old w after
  same-fitting {w = w} {after = after} e said = subst (λ (x : Outcome (List ℕ)). Answered (fitting (length old) x) old w after) (sym e) said

  -- a refusal that is handed on, without that test and with it
  module _ (r : Result ℕ Refusal) (why : Refusal) (h : IsErrAnd r (λ w. w ≡ why)) (e : o ≡ refused (number_of why)) where
    pub refusing : Answered o old (outcome_of r) old
    refusing = same_answer e (handed-on r why h, refl)

    pub refusing-fitting : Answered (fitting (length old) o) old (outcome_of r) old
    refusing-fitting = same-fitting e (handed-on r why h, refl)

-- the code is that of what a call below answered
pub written-code : (o : Outcome (List ℕ)) {w : Outcome ℕ} {code : ℕ} → code ≡ code_of w → w ≡ length_of o → code ≡ code_of o
written-code (given answer) e f = e ∙ ap code_of f
written-code (refused n) e f = e ∙ ap code_of f

-- and a length told beside it
pub written-size : (o : Outcome (List ℕ)) {w : Outcome ℕ} {size : ℕ} (old : ℕ) → size ≡ told_size w old → w ≡ length_of o → size ≡ size_after o old
written-size (given answer) old e f = e ∙ ap (λ (x : Outcome ℕ). told_size x old) f
written-size (refused n) old e f = e ∙ ap (λ (x : Outcome ℕ). told_size x old) f

-- an answer that fits
pub fits_whole : (answer old : List ℕ) → length answer ≤ length old → fitting (length old) (given answer) ≡ given answer
fits_whole answer old h = simp (le-leb (length answer) (length old) h)
