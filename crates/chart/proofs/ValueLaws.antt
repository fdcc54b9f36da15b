-- What the tests of a chart's values tell: which counts fit, and which values are accepted; and what is answered after them.
use mathlib.Core.Path.{◌≡◌, refl, sym, ◌∙◌}
use mathlib.Core.Bool.{Bool, true, false, ◌&&◌}
use mathlib.Core.List.{List, [], ◌∷◌, ◌++◌}
use Prim.Native.Nat.{ℕ, ◌≤◌, ◌<◌}
use lib.Dec.{leb}
use lib.ListN.{length, get_or}
use borrow.Author.Tests.{leb-true}
use Rattle.refusal.specs.Outcome.{Outcome}
use Rattle.refusal.specs.Outcome.Outcome.{given, refused}
use Rattle.refusal.specs.Numbers.{number_of}
use Rattle.refusal.specs.declared.Refusal.TheVariants as refusal
use Rattle.refusal.proofs.Testing.{both}
use Rattle.refusal.proofs.Rows.{row, row-given, row-refused}
use Rattle.chart.specs.Values.{every, greatest_value, is_value, all_values, least_setup, most_setup, most_later, counts_fit, tested}
use Rattle.chart.proofs.EveryLaws.{every_append, every_at}

-- ---- the counts
pub counts-within : (setup later : ℕ) → counts_fit setup later ≡ true
    → (least_setup ≤ setup) × (setup ≤ most_setup) × (later ≤ most_later)
unfolding counts_fit
counts-within setup later e =
    let p = both (leb least_setup setup) _ e in
    let q = both (leb setup most_setup) _ p.1 in
    (leb-true least_setup setup p.0, leb-true setup most_setup q.0, leb-true later most_later q.1)

-- ---- the values
pub values-append : (a l : List ℕ) → all_values (a ++ l) ≡ (all_values a && all_values l)
values-append a l = every_append is_value a l

pub values-each : (v : ℕ) (l : List ℕ) → all_values (v ∷ l) ≡ true → (v ≤ greatest_value) × (all_values l ≡ true)
unfolding every
values-each v l e = let p = both (is_value v) (all_values l) e in (leb-true v greatest_value p.0, p.1)

module _ (l : List ℕ) (e : all_values l ≡ true) where
  pub value_at : (i : ℕ) → i < length l → get_or l i 0 ≤ greatest_value
  value_at i h = leb-true (get_or l i 0) greatest_value (every_at is_value l i h e)

  pub values-pair : (i k : ℕ) → i < length l → k < length l → all_values (get_or l i 0 ∷ get_or l k 0 ∷ []) ≡ true
  unfolding every
  values-pair i k h g = rw (every_at is_value l i h e, every_at is_value l k g e)

-- ---- the answers
pub record Valid (a l : List ℕ) : Type 0 where
  pub counts : counts_fit (length a) (length l) ≡ true
  pub setup : all_values a ≡ true
  pub later : all_values l ≡ true

module _ (a l : List ℕ) {A : Type 0} (rest : Outcome A) where
  pub values-refused : counts_fit (length a) (length l) ≡ true → (all_values a && all_values l) ≡ false
      → tested a l rest ≡ refused (number_of refusal.Chart)
  unfolding tested
  values-refused fits e = rw (fits, e)

  pub valid-passes : Valid a l → tested a l rest ≡ rest
  unfolding tested
  valid-passes v = rw (v.counts, v.setup, v.later)

module _ (a l : List ℕ) where
  abbrev tests : List (Bool × ℕ)
  tests = (counts_fit (length a) (length l), number_of refusal.Count) ∷ (all_values a && all_values l, number_of refusal.Chart) ∷ []

  -- the definition, as one row
  in_row : {A : Type 0} (rest : Outcome A) → tested a l rest ≡ row tests rest
  unfolding tested
  in_row rest = refl

  module _ {A : Type 0} (x : A) where
    -- a value was given: the tests passed, and it is that of the rest
    pub accepted : {y : A} → given y ≡ tested a l (given x) → Valid a l × (y ≡ x)
    accepted {y} e =
        let p = row-given tests (given x) y (sym (in_row (given x)) ∙ sym e) in
        let values = both (all_values a) (all_values l) p.0.1.0 in
        let same : y ≡ x = cc (p.1) in
        (record { counts = p.0.0; setup = values.0; later = values.1 }, same)

    -- whatever was to be answered, the refusal is
    pub refused-for-all : {n : ℕ} → refused n ≡ tested a l (given x) → {B : Type 0} (rest : Outcome B) → refused n ≡ tested a l rest
    refused-for-all {n} e rest = sym (in_row rest ∙ row-refused tests x n (sym (in_row (given x)) ∙ sym e) rest)
