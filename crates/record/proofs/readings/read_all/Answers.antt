-- The loop has read and held the readings passed; it is left at the first that is none.
use mathlib.Core.Path.{◌≡◌, refl, sym, ap, ap₂, ◌∙◌}
use mathlib.Core.List.{[], ◌∷◌, ◌++◌}
use native.Mathlib.Numerals.{add-one}
use native.Mathlib.Omega.{arith}
use lib.ListN.{length-set}
use lib.Seq.{take-suc-set, take_all}
use Rattle.refusal.specs.Outcome.{is_given, outcome_of}
use Rattle.refusal.specs.Outcome.Outcome.{given, refused}
use Rattle.refusal.proofs.Outcomes.{handed-on}
use Rattle.reading.specs.Analytes.{analyte_of}
use Rattle.reading.proofs.AnalyteLaws.{was-analyte, was-none}
use Rattle.record.specs.Record.{readings, read_at, or_missing, reading_at}
use Rattle.record.specs.Tested.{first_analytes}
use Rattle.record.proofs.AllBelow.{all_none, all_more, all-fails}
use Rattle.record.proofs.PairLaws.{analyte-at, none-at}
use Rattle.record.proofs.readings.read_all.Goals as goal

pub loop-i-init : goal.loop-i-init
unfolding first_analytes
loop-i-init c = record { all = all_none _; long = refl; held = refl }

pub returns-in_err-analytes : goal.returns-in_err-analytes
returns-in_err-analytes c =
    let s = c.args.words.now in
    let i = c.loop-i.i in
    let read = c.from_words.ensures ∙ analyte-at s _ i (c.pairs-mark-items.ensures.each i (omega arith)) in
    let none = was-none (read_at s i) _ (sym (ap outcome_of c.in_err-analytes.was) ∙ grind (arith, read)) in
    rw (all-fails (λ k. is_given (read_at s k)) i readings (omega arith) (ap is_given none))
    (handed-on _ _ c.from_residual.ensures.1 ∙ ap (λ n. refused n) (none-at s i _ none))

pub loop-i-preserved : goal.loop-i-preserved
unfolding reading_at first_analytes
loop-i-preserved c =
    let l = c.loop-i in
    let i = l.i in
    let read = c.from_words.ensures ∙ analyte-at c.args.words.now _ i (c.pairs-mark-items.ensures.each i (omega arith)) in
    let was = was-analyte (read_at c.args.words.now i) _ (sym (ap outcome_of c.in_ok-analytes.was) ∙ grind (arith, read)) in
    let new = was.1 ∙ ap (λ r. analyte_of (or_missing r)) (sym was.0) in
    record {
      all = all_more _ i l.invariant.all (ap is_given was.0);
      long = length-set l.analytes i _ ∙ l.invariant.long;
      held = rw (add-one i) (take-suc-set l.analytes i _ (omega arith) ∙ ap₂ (λ before a. before ++ a ∷ []) l.invariant.held new);
    }

pub returns : goal.returns
returns c =
    let l = c.loop-i in
    let e : l.i ≡ readings = omega arith in
    rw (rw e at l.invariant.all) (ap (λ a. given a) (sym (take_all readings l.analytes (omega arith)) ∙ rw e at l.invariant.held))
