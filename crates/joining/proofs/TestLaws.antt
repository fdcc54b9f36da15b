-- What the tests of joining tell of two batches that passed them.
use mathlib.Core.Path.{◌≡◌, refl}
use mathlib.Core.Bool.{Bool, true}
use mathlib.Core.List.{List, [], ◌∷◌}
use Prim.Native.Nat.{ℕ, ◌+◌, ◌≤◌}
use native.Mathlib.Omega.{arith}
use lib.Dec.{eqb, leb}
use lib.ListN.{length}
use borrow.Author.Tests.{eqb-true, leb-true}
use Rattle.refusal.specs.Outcome.{Outcome}
use Rattle.refusal.specs.Outcome.Outcome.{given}
use Rattle.refusal.specs.Numbers.{number_of}
use Rattle.refusal.specs.declared.Refusal.TheVariants as refusal
use Rattle.refusal.proofs.Testing.{both}
use Rattle.refusal.proofs.Rows.{row-given}
use Rattle.chart.specs.Values.{most_later}
use Rattle.words.specs.Each.{Every}
use Rattle.chart_section.specs.ChartSection.{Chart}
use Rattle.joining.specs.Charts.{Match, key_of, match_in, same_values, tested_with, tested_charts}

same_true : (s t : List ℕ) → same_values s t ≡ true → s ≡ t
unfolding same_values
same_true [] [] e = refl
same_true [] (y ∷ t) e = let z : ◌≡◌ {A = ℕ} 0 1 = cc in absurd (omega arith)
same_true (x ∷ s) [] e = let z : ◌≡◌ {A = ℕ} 0 1 = cc in absurd (omega arith)
same_true (x ∷ s) (y ∷ t) e =
    let p = both (eqb x y) (same_values s t) e in
    let head = eqb-true x y p.0 in
    let tail = same_true s t p.1 in
    cc

-- a chart and what the other batch has for its key
abbrev pub Agrees : Chart → Match → Type 0
Agrees c Match.alone = Unit {0}
Agrees c (Match.both d) = (c.setup ≡ d.setup) × (length c.later + length d.later ≤ most_later)

abbrev pub AllAgree : List Chart → List Chart → Type 0
AllAgree first second = Every (λ c. Agrees c (match_in second (key_of c))) first

module _ {A : Type 0} where
  tested-given : (c : Chart) (m : Match) (rest : Outcome A) (x : A) → tested_with c m rest ≡ given x → Agrees c m × (rest ≡ given x)
  tested-given c Match.alone rest x e = (tt, e)
  tested-given c (Match.both d) rest x e =
      let tests : List (Bool × ℕ) =
      (same_values c.setup d.setup, number_of refusal.SetupDiffers)
      ∷ (leb (length c.later + length d.later) most_later, number_of refusal.JoinedCount)
      ∷ [] in
      let p = row-given tests rest x e in
      ((same_true c.setup d.setup p.0.0, leb-true (length c.later + length d.later) most_later p.0.1.0), p.1)

  pub all_tested : (first second : List Chart) (rest : Outcome A) (x : A) → tested_charts first second rest ≡ given x → AllAgree first second × (rest ≡ given x)
  unfolding tested_charts
  all_tested [] second rest x e = (tt, e)
  all_tested (c ∷ cs) second rest x e =
      let p = tested-given c (match_in second (key_of c)) (tested_charts cs second rest) x e in
      let q = all_tested cs second rest x p.1 in
      ((p.0, q.0), q.1)
