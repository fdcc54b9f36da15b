-- What the fields of a record hand to the checks gives the record's own verdicts, and these are true and survive finer readings.
use mathlib.Core.Path.{◌≡◌, refl, sym, ap, subst, ◌∙◌}
use mathlib.Core.Bool.{false}
use mathlib.Core.List.{List}
use Prim.Native.Nat.{ℕ, ◌<◌}
use native.Mathlib.Omega.{arith}
use Rattle.refusal.specs.Outcome.Outcome.{given, refused}
use Rattle.refusal.specs.Numbers.{number_of}
use Rattle.refusal.specs.declared.Refusal.{Refusal}
use Rattle.reading.specs.declared.Analyte.{Analyte}
use Rattle.reading.specs.Analytes.{present}
use Rattle.std.specs.Prelude.{Result, Ok, Err}
use Rattle.record.specs.declared.TestedRecord.{TestedRecord}
use Rattle.record.specs.Record.{readings, ammonium, sodium, nitrate, chloride, total_nitrogen, organic_carbon, reading_at}
use Rattle.record.specs.Tested.{analyte_at, fields_in, terms_of, Holds, OwnTests}
use Rattle.record.proofs.AcceptedLaws.{Valid, accepted-given, valid-accepted}
use Rattle.record.proofs.TestedLaws.{tested-valid, tested-holds, tested-refused}
use Rattle.solution.specs.Solutions.{sum_ranges_of}
use Rattle.solution.proofs.HeldLaws.{held-there, held-amount, held-end}
use Rattle.solution.proofs.SolutionLaws.{fields_give}
use Rattle.judge.specs.IonBalance.{ion_balance_of}
use Rattle.judge.specs.Conductivity.{conductivity_verdict}
use Rattle.judge.specs.Ratios.{sodium_chloride_of, nitrogen_of}
use Rattle.judge.specs.Judgements.{Four, verdicts_of, judgement_of}
use Rattle.judge.specs.ByValue.{balance_in, conductivity_in, ratio_in, nitrogen_in, verdicts_in, judged_of}
use Rattle.judge.specs.Truth.{Truth}
use Rattle.judge.specs.Finer.{SurvivesFiner}
use Rattle.judge.proofs.HandedLaws.{balance-corners, conductivity-corners, ratio-corners, nitrogen-corners}
use Rattle.judge.proofs.TruthProofs.{truth}
use Rattle.judge.proofs.FinerProofs.{survives}
use Rattle.judge.proofs.AnswerWays.{is-judged, is-refused}

module _ (s : List ℕ) where
  -- ---- each check of fields that are the record's
  module _ (own : TestedRecord) (h : Holds s own) where
    abbrev reading : ℕ → Analyte
    reading i = analyte_at own.analytes i

    there : (i : ℕ) → i < readings → present (reading i).reading ≡ present (reading_at s i)
    there = held-there s own h

    balance-is : balance_in own.kind (reading organic_carbon) own.conductivity (sum_ranges_of s) ≡ ion_balance_of s
    unfolding balance_in
    balance-is =
        let kind = h.kind in
        let measured = h.conductivity in
        let carbon = there organic_carbon (omega arith) in
        let amount = held-amount s own h organic_carbon (omega arith) in
        let corners = balance-corners s in
        cc

    conductivity-is : conductivity_in own.conductivity (sum_ranges_of s) ≡ conductivity_verdict s
    unfolding conductivity_in
    conductivity-is =
        let measured = h.conductivity in
        let corners = conductivity-corners s in
        cc

    ratio-is : ratio_in own.kind (reading sodium) (reading chloride) (sum_ranges_of s) ≡ sodium_chloride_of s
    unfolding ratio_in
    ratio-is =
        let kind = h.kind in
        let na = there sodium (omega arith) in
        let cl = there chloride (omega arith) in
        let least = held-end s own h false chloride (omega arith) in
        let corners = ratio-corners s in
        cc

    nitrogen-is : nitrogen_in (reading total_nitrogen) (reading nitrate) (reading ammonium) (sum_ranges_of s) ≡ nitrogen_of s
    unfolding nitrogen_in
    nitrogen-is =
        let a = there total_nitrogen (omega arith) in
        let b = there nitrate (omega arith) in
        let c = there ammonium (omega arith) in
        let corners = nitrogen-corners s in
        cc

    verdicts-are : verdicts_in (fields_in own) (sum_ranges_of s) ≡ verdicts_of s
    verdicts-are = cc (balance-is, conductivity-is, ratio-is, nitrogen-is)

  pub judged : Valid s → judgement_of s ≡ given (verdicts_of s)
  unfolding judgement_of
  judged v = valid-accepted s (given (verdicts_of s)) v

  pub told : (v : Four) → judgement_of s ≡ given v → Truth s v
  unfolding judgement_of
  told v e =
      let g = accepted-given s (given (verdicts_of s)) v e in
      let is : verdicts_of s ≡ v = cc g.1 in
      subst (Truth s) is (truth s g.0)

  pub told-finer : (v : Four) → judgement_of s ≡ given v → SurvivesFiner s v
  unfolding judgement_of
  told-finer v e new w f e' =
      let g = accepted-given s (given (verdicts_of s)) v e in
      let g' = accepted-given new (given (verdicts_of new)) w e' in
      let is : verdicts_of s ≡ v = cc g.1 in
      let is' : verdicts_of new ≡ w = cc g'.1 in
      rw (← is, ← is') (survives s new f g.0 g'.0)

  refused-is : {own : TestedRecord} {why : Refusal} → OwnTests s own → own.tested ≡ Err why → judgement_of s ≡ refused (number_of why)
  unfolding judgement_of
  refused-is t e = sym (tested-refused t e (given (verdicts_of s)))

  -- ---- the judgement by value, by how the tests ended
  pub by_value : {own : TestedRecord} → OwnTests s own → judged_of (terms_of own) ≡ judgement_of s
  by_value {own} t = go own.tested refl
    where
      go : (x : Result ℕ Refusal) → own.tested ≡ x → judged_of (terms_of own) ≡ judgement_of s
      go (Ok floor) e =
          let w = tested-valid t e in
          let h = tested-holds t e in
          let sums = fields_give s own floor w.0 h w.1 in
          sym (is-judged own e refl) ∙ ap (λ (x : Four). given x) (ap (verdicts_in (fields_in own)) sums ∙ verdicts-are own h) ∙ sym (judged w.0)
      go (Err why) e = sym (is-refused own e) ∙ sym (refused-is t e)
