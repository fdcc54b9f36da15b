-- What the judge's answers on a repeat tell: of the record's own tests, and of a record and the one before it.
use mathlib.Core.Path.{◌≡◌, refl, sym, ap, ◌∙◌}
use mathlib.Core.Bool.{Bool, true, false}
use mathlib.Core.List.{List}
use Prim.Native.Nat.{ℕ}
use Rattle.refusal.specs.Outcome.{Outcome, is_given}
use Rattle.refusal.specs.Outcome.Outcome.{given, refused}
use Rattle.refusal.proofs.Outcomes.{never}
use Rattle.record.specs.declared.TestedRecord.{TestedRecord}
use Rattle.record.specs.Tested.{fields_in, same_sample_in, OwnTests}
use Rattle.record.proofs.AcceptedLaws.{Valid, accepted-given, valid-accepted, refused-for-all}
use Rattle.record.proofs.TestedLaws.{tested-sample}
use Rattle.agreement.specs.Agreement.{agreement_of}
use Rattle.agreement.proofs.Laws.{compared-valid, valid-compared}
use Rattle.judge.specs.Judgements.{Four, verdicts_of, judgement_of}
use Rattle.judge.specs.Repeats.{same_sample_of, agrees, acceptance_of, Compared, compared_by, comparison_of}
use Rattle.judge.specs.Repeats.Compared.{other_sample, differing, agreeing}
use Rattle.judge.proofs.Laws.{valid-judged}

module _ (s : List ℕ) where
  pub accepted-valid : acceptance_of s ≡ given tt → Valid s
  unfolding acceptance_of
  accepted-valid e = (accepted-given s (given tt) tt e).0

  pub valid-accepts : Valid s → acceptance_of s ≡ given tt
  unfolding acceptance_of
  valid-accepts v = valid-accepted s (given tt) v

  -- what is judged is accepted, and what is not is refused by the record's own tests
  pub judged-accepts : {v : Four} → judgement_of s ≡ given v → acceptance_of s ≡ given tt
  unfolding judgement_of
  judged-accepts e = valid-accepts (accepted-given s (given (verdicts_of s)) _ e).0

  pub judged-refuses : {n : ℕ} → judgement_of s ≡ refused n → acceptance_of s ≡ refused n
  unfolding judgement_of acceptance_of
  judged-refuses e = refused-for-all s (verdicts_of s) _ e (given tt)

  -- and the other way round
  pub accepted-judged : acceptance_of s ≡ given tt → judgement_of s ≡ given (verdicts_of s)
  accepted-judged e = valid-judged s (accepted-valid e)

  pub refused-judged : {n : ℕ} → acceptance_of s ≡ refused n → judgement_of s ≡ refused n
  unfolding judgement_of acceptance_of
  refused-judged e = refused-for-all s tt _ e (given (verdicts_of s))

-- how two tested records compare: whether they are of one sample is asked only where both are records
pub compared-held : {s t : List ℕ} {one other : TestedRecord} → OwnTests s one → OwnTests t other
    → compared_by (agreement_of s t) (same_sample_in (fields_in one) (fields_in other)) ≡ comparison_of s t
unfolding comparison_of
compared-held {s} {t} {one} {other} a b = by-agreement (agreement_of s t) refl
  where
    by-agreement : (o : Outcome Bool) → agreement_of s t ≡ o → compared_by o (same_sample_in (fields_in one) (fields_in other)) ≡ compared_by o (same_sample_of s t)
    by-agreement (given agree) e = let w = compared-valid s t agree e in ap (compared_by (given agree)) (tested-sample a b w.0 w.1)
    by-agreement (refused n) e = refl

-- what a comparison with an accepted record t says of the one before it, s
abbrev pub Told : List ℕ → List ℕ → Outcome Compared → Type 0
Told s t (refused n) = is_given (acceptance_of s) ≡ false
Told s t (given other_sample) = (is_given (acceptance_of s) ≡ true) × (same_sample_of s t ≡ false)
Told s t (given differing) = (is_given (acceptance_of s) ≡ true) × (same_sample_of s t ≡ true) × (agrees s t ≡ false)
Told s t (given agreeing) = (is_given (acceptance_of s) ≡ true) × (same_sample_of s t ≡ true) × (agrees s t ≡ true)

module _ (s t : List ℕ) (accepted : acceptance_of t ≡ given tt) where
  -- where the two can't be compared, the one before is no record
  not-record : {n : ℕ} → agreement_of s t ≡ refused n → (o : Outcome (Unit {0})) → acceptance_of s ≡ o → is_given o ≡ false
  not-record e (given _) a = never (sym e ∙ valid-compared s t (accepted-valid s a) (accepted-valid t accepted))
  not-record e (refused n) a = refl

  told-by : (o : Outcome Bool) → agreement_of s t ≡ o → (same : Bool) → same_sample_of s t ≡ same → Told s t (compared_by o same)
  told-by (given true) e true m = let w = compared-valid s t true e in (ap is_given (valid-accepts s w.0), m, sym w.2)
  told-by (given false) e true m = let w = compared-valid s t false e in (ap is_given (valid-accepts s w.0), m, sym w.2)
  told-by (given b) e false m = let w = compared-valid s t b e in (ap is_given (valid-accepts s w.0), m)
  told-by (refused n) e same m = not-record e (acceptance_of s) refl

  pub told : {x : Outcome Compared} → x ≡ comparison_of s t → Told s t x
  unfolding comparison_of
  told e = rw e (told-by (agreement_of s t) refl (same_sample_of s t) refl)
