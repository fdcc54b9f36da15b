-- The plain docket: the last records of a list with one more at the end, and when it stands where.
use mathlib.Core.Path.{◌≡◌, refl, sym, ap, subst, ◌∙◌}
use mathlib.Core.Bool.{Bool, true, false, cond, ◌&&◌, and-eq-true_iff, true≢false}
use mathlib.Core.List.{List, [], ◌∷◌, ◌++◌}
use mathlib.Core.Logic.{◌↔◌, ◌≢◌}
use Prim.Native.Nat.{ℕ, ◌+◌, ◌-◌, ◌≤◌, ◌<◌}
use native.Mathlib.Omega.{arith}
use lib.Dec.{leb, eqb}
use lib.ListN.{length, get_or, length-append, get_or-append}
use lib.Seq.{get_or-append_seam}
use borrow.Author.Tests.{eq-eqb, ne_eqb, le-leb, eqb-true, eqb-false, leb-true}
use Rattle.judge.specs.Passing.{passed}
use Rattle.docket.specs.Terms.{Standing, is_open, most_taken}
use Rattle.docket.specs.Terms.Standing.{«open», consistent, confirmed, unsettled}
use Rattle.docket.specs.Plain.{last_of, before_last, last_two_agree, plain_state}

-- one more at the end
module _ (took : List (List ℕ)) (s : List ℕ) where
  pub length_more : length (took ++ (s ∷ [])) ≡ length took + 1
  length_more = length-append took (s ∷ [])

  pub last_more : last_of (took ++ (s ∷ [])) ≡ s
  unfolding last_of
  last_more =
      let e : length (took ++ (s ∷ [])) - 1 ≡ length took = omega (arith, length_more) in
      ap (λ (n : ℕ). get_or (took ++ (s ∷ [])) n []) e ∙ get_or-append_seam took s [] []

  pub before_more : 0 < length took → before_last (took ++ (s ∷ [])) ≡ last_of took
  unfolding last_of before_last
  before_more h =
      let e : length (took ++ (s ∷ [])) - 2 ≡ length took - 1 = omega (arith, length_more) in
      ap (λ (n : ℕ). get_or (took ++ (s ∷ [])) n []) e ∙ get_or-append took (s ∷ []) [] (length took - 1) (omega arith)

-- where it stands, by its four tests: it is empty, the last passed, the last two agree, it took three
module _ (empty passes repeats third : Bool) where
  abbrev standing : Standing
  standing = cond empty «open» (cond passes consistent (cond repeats confirmed (cond third unsettled «open»)))

  data Stands : Standing → Type 0 where
    while-empty : empty ≡ true → Stands «open»
    as-consistent : empty ≡ false → passes ≡ true → Stands consistent
    as-confirmed : empty ≡ false → repeats ≡ true → Stands confirmed
    as-unsettled : third ≡ true → Stands unsettled
    still_open : third ≡ false → Stands «open»

stands : (e p r t : Bool) → Stands e p r t (standing e p r t)
stands true p r t = while-empty refl
stands false true r t = as-consistent refl refl
stands false false true t = as-confirmed refl refl
stands false false false true = as-unsettled refl
stands false false false false = still_open refl

is-consistent : {e p r t : Bool} → Stands e p r t consistent → (e ≡ false) × (p ≡ true)
is-consistent (as-consistent h k) = (h, k)

is-confirmed : {e p r t : Bool} → Stands e p r t confirmed → (e ≡ false) × (r ≡ true)
is-confirmed (as-confirmed h k) = (h, k)

is-unsettled : {e p r t : Bool} → Stands e p r t unsettled → t ≡ true
is-unsettled (as-unsettled h) = h

pick-confirmed : (p t : Bool) → standing false p true t ≢ consistent → standing false p true t ≡ confirmed
pick-confirmed true t h = absurd (h refl)
pick-confirmed false t h = refl

pick-unsettled : (p r : Bool) → standing false p r true ≢ consistent → standing false p r true ≢ confirmed
    → standing false p r true ≡ unsettled
pick-unsettled true r h k = absurd (h refl)
pick-unsettled false true h k = absurd (k refl)
pick-unsettled false false h k = refl

pub open_is : (x : Standing) → is_open x ≡ true → x ≡ «open»
open_is «open» e = refl
open_is consistent e = absurd (true≢false (sym e))
open_is confirmed e = absurd (true≢false (sym e))
open_is unsettled e = absurd (true≢false (sym e))

-- the same of a list of records
module _ (took : List (List ℕ)) (x : Standing) (is : x ≡ plain_state took) where
  abbrev two_agree : Bool
  two_agree = leb 2 (length took) && last_two_agree took

  abbrev Here : Standing → Type 0
  Here = Stands (eqb (length took) 0) (passed (last_of took)) two_agree (eqb (length took) most_taken)

  here : {y : Standing} → x ≡ y → Here y
  unfolding plain_state
  here e = subst Here (sym is ∙ e) (stands (eqb (length took) 0) (passed (last_of took)) two_agree (eqb (length took) most_taken))

  open-here : Here «open» → length took ≢ most_taken
  open-here (while-empty h) e = omega (arith, eqb-true (length took) 0 h)
  open-here (still_open h) e = eqb-false (length took) most_taken h e

  pub open-fewer : x ≡ «open» → length took ≢ most_taken
  open-fewer e = open-here (here e)

  pub consistent-when : (x ≡ consistent) ↔ ((0 < length took) × (passed (last_of took) ≡ true))
  unfolding plain_state
  consistent-when = (
    (λ e. let w = is-consistent (here e) in (omega (arith, eqb-false (length took) 0 w.0), w.1)),
    (λ h. is ∙ rw (ne_eqb (length took) 0 (λ n. omega (arith, h.0)), h.1)),
  )

  confirmed-then : x ≢ consistent → 2 ≤ length took → last_two_agree took ≡ true → x ≡ confirmed
  unfolding plain_state
  confirmed-then n h k =
      let e : x ≡ standing false (passed (last_of took)) true (eqb (length took) most_taken) =
      is ∙ rw (ne_eqb (length took) 0 (λ z. omega arith), le-leb 2 (length took) h, k) in
      e ∙ pick-confirmed (passed (last_of took)) (eqb (length took) most_taken) (λ y. n (e ∙ y))

  pub confirmed-when : (x ≡ confirmed) ↔ ((x ≢ consistent) × (2 ≤ length took) × (last_two_agree took ≡ true))
  confirmed-when = (
    (λ e. let w = (and-eq-true_iff (leb 2 (length took)) (last_two_agree took)).0 (is-confirmed (here e)).1 in
        ((λ k. let z : ◌≡◌ {A = ℕ} 0 1 = cc in omega arith), leb-true 2 (length took) w.0, w.1)),
    (λ h. confirmed-then h.0 h.1 h.2),
  )

  unsettled-then : x ≢ consistent → x ≢ confirmed → length took ≡ most_taken → x ≡ unsettled
  unfolding plain_state
  unsettled-then n m h =
      let e : x ≡ standing false (passed (last_of took)) two_agree true =
      is ∙ rw (ne_eqb (length took) 0 (λ z. omega arith), eq-eqb (length took) most_taken h) in
      e ∙ pick-unsettled (passed (last_of took)) two_agree (λ y. n (e ∙ y)) (λ y. m (e ∙ y))

  pub unsettled-when : (x ≡ unsettled) ↔ ((x ≢ consistent) × (x ≢ confirmed) × (length took ≡ most_taken))
  unsettled-when = (
    (λ e. (
      (λ k. let z : ◌≡◌ {A = ℕ} 0 1 = cc in omega arith),
      (λ k. let z : ◌≡◌ {A = ℕ} 0 1 = cc in omega arith),
      eqb-true (length took) most_taken (is-unsettled (here e)),
    )),
    (λ h. unsettled-then h.0 h.1 h.2),
  )
