-- For the crates above: the comparison of two records by their fields is that of the records, and what it tells of them.
use mathlib.Core.Path.{◌≡◌, refl, sym, ap, ◌∙◌}
use mathlib.Core.Bool.{Bool}
use mathlib.Core.List.{List}
use Prim.Native.Nat.{ℕ, ◌<◌}
use native.Mathlib.Omega.{arith}
use Rattle.refusal.specs.Outcome.{Outcome}
use Rattle.refusal.specs.Outcome.Outcome.{given, refused}
use Rattle.hydrogen.specs.Floors.{floor_at}
use Rattle.record.specs.Record.{ph_of, readings, ions, accepted}
use Rattle.record.specs.Tested.{first_analytes, fields_of, terms_by, tested_of}
use Rattle.record.proofs.AllBelow.{all_same}
use Rattle.record.proofs.AcceptedLaws.{Valid, accepted-given, valid-accepted, refused-for-all}
use Rattle.record.proofs.TestedLaws.{each-analyte}
use Rattle.agreement.specs.Agreement.{reading_agrees, ion_agrees, agrees, agreement_of}
use Rattle.agreement.specs.Compared.{ions_agree_at, fields_agree, compared_of}

-- how a record's own tests end
abbrev ended : List ℕ → Outcome ℕ
ended s = accepted s (given (floor_at (ph_of s)))

module _ (s t : List ℕ) where
  ion-same : (i : ℕ) → i < ions → ions_agree_at (first_analytes s readings) (first_analytes t readings) i ≡ ion_agrees s t i
  unfolding reading_agrees
  ion-same i l = rw (each-analyte s readings i (omega arith), each-analyte t readings i (omega arith))

  fields-agree : fields_agree (fields_of s) (fields_of t) ≡ agrees s t
  unfolding agrees
  fields-agree = rw (all_same _ (ion_agrees s t) ions ion-same)

  pub valid-compared : Valid s → Valid t → agreement_of s t ≡ given (agrees s t)
  unfolding agreement_of
  valid-compared v w = valid-accepted s (accepted t (given (agrees s t))) v ∙ valid-accepted t (given (agrees s t)) w

  -- an agreement is told of accepted records only
  pub compared-valid : (b : Bool) → agreement_of s t ≡ given b → Valid s × Valid t × (b ≡ agrees s t)
  unfolding agreement_of
  compared-valid b e =
      let first = accepted-given s (accepted t (given (agrees s t))) b e in
      let second = accepted-given t (given (agrees s t)) b first.1 in
      (first.0, second.0, cc second.1)

  by_tests : (x : Outcome ℕ) → ended s ≡ x → (y : Outcome ℕ) → ended t ≡ y → compared_of (terms_by x (fields_of s)) (terms_by y (fields_of t)) ≡ agreement_of s t
  unfolding compared_of agreement_of
  by_tests (given h) e (given k) f =
      ap given fields-agree ∙ sym (valid-compared (accepted-given s (given (floor_at (ph_of s))) h e).0 (accepted-given t (given (floor_at (ph_of t))) k f).0)
  by_tests (given h) e (refused n) f =
      sym (valid-accepted s _ (accepted-given s (given (floor_at (ph_of s))) h e).0 ∙ refused-for-all t (floor_at (ph_of t)) n f (given (agrees s t)))
  by_tests (refused n) e y f = sym (refused-for-all s (floor_at (ph_of s)) n e (accepted t (given (agrees s t))))

  pub compared_is : compared_of (tested_of s) (tested_of t) ≡ agreement_of s t
  unfolding tested_of
  compared_is = by_tests (ended s) refl (ended t) refl
