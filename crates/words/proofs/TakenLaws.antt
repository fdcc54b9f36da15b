-- What was read: a part that was taken stands at the front by its words and has what its own reading establishes; so does a
-- section, part by part.
use mathlib.Core.Path.{◌≡◌, refl, sym, ap, ◌∙◌}
use mathlib.Core.Bool.{Bool}
use mathlib.Core.List.{List, [], ◌∷◌, ◌++◌, append_assoc, append-nil}
use Prim.Native.Nat.{ℕ, zero, suc, ◌≤◌}
use native.Mathlib.Omega.{arith}
use lib.Dec.{leb}
use lib.ListN.{length, get_or, drop}
use lib.Seq.{drop-cons}
use borrow.Author.Tests.{leb-true}
use Rattle.refusal.specs.Outcome.{Outcome}
use Rattle.refusal.specs.Outcome.Outcome.{given, refused}
use Rattle.refusal.specs.Numbers.{number_of}
use Rattle.refusal.specs.declared.Refusal.TheVariants as refusal
use Rattle.refusal.proofs.Rows.{row-given}
use Rattle.refusal.proofs.Outcomes.{never}
use Rattle.words.specs.FromFront.{Read, taken, then, many, section}
use Rattle.words.specs.Sections.{all_words, section_words}
use Rattle.words.specs.Each.{EachAfter}

-- ---- a part and what follows

pub then-given : {A B : Type 0} (x : Read A) (next : A → List ℕ → Outcome B) (b : B) → then x next ≡ given b
    → (a : A) × (rest : List ℕ) × (x ≡ taken a rest) × (next a rest ≡ given b)
then-given (given (a, rest)) next b e = (a, rest, refl, e)
then-given (refused n) next b e = never e

pub taken-same : {A : Type 0} {a b : A} {r t : List ℕ} → taken a r ≡ taken b t → (a ≡ b) × (r ≡ t)
taken-same {A} {a} {b} {r} {t} e =
    let pair : ◌≡◌ {A = A × List ℕ} (a, r) (b, t) = cc in
    (ap (λ (p : A × List ℕ). p.0) pair, ap (λ (p : A × List ℕ). p.1) pair)

-- a part that was taken has P, and stands at the front by its words
abbrev pub Stands : {A : Type 0} → (List A → A → Type 0) → (A → List ℕ) → (List A → List ℕ → Read A) → Type 0
Stands {A} P words part = (before : List A) (s : List ℕ) (a : A) (rest : List ℕ) → part before s ≡ taken a rest → P before a × (s ≡ words a ++ rest)

module _ {A : Type 0} (P : List A → A → Type 0) (words : A → List ℕ) (part : List A → List ℕ → Read A) (stands : Stands P words part) where
  many-taken : (n : ℕ) (before : List A) (s : List ℕ) (all : List A) (rest : List ℕ) → many part n before s ≡ taken all rest
      → (new : List A) × (all ≡ before ++ new) × (length new ≡ n) × EachAfter P before new × (s ≡ all_words words new ++ rest)
  unfolding many all_words
  many-taken zero before s all rest e =
      let t = taken-same e in
      ([], sym t.0 ∙ sym (append-nil before), refl, tt, t.1)
  many-taken (suc n) before s all rest e =
      let t = then-given (part before s) (λ a r. many part n (before ++ a ∷ []) r) (all, rest) e in
      let a = t.0 in
      let here = stands before s a t.1 t.2 in
      let m = many-taken n (before ++ a ∷ []) t.1 all rest t.3 in (
        a ∷ m.0,
        m.1 ∙ append_assoc before (a ∷ []) m.0,
        ap suc m.2,
        (here.0, m.3),
        here.1 ∙ ap (λ (l : List ℕ). words a ++ l) m.4 ∙ sym (append_assoc (words a) (all_words words m.0) rest),
      )

  pub section-taken : (most : ℕ) (s : List ℕ) (all : List A) (rest : List ℕ) → section most part s ≡ taken all rest
      → (length all ≤ most) × EachAfter P [] all × (s ≡ section_words words all ++ rest)
  unfolding section
  section-taken most s all rest e =
      let tests : List (Bool × ℕ) = (leb 1 (length s), number_of refusal.BatchLength) ∷ (leb (get_or s 0 0) most, number_of refusal.Count) ∷ [] in
      let p = row-given tests (many part (get_or s 0 0) [] (drop 1 s)) (all, rest) e in
      let m = many-taken (get_or s 0 0) [] (drop 1 s) all rest p.1 in
      let size : length all ≡ get_or s 0 0 = ap length m.1 ∙ m.2 in
      let few : get_or s 0 0 ≤ most = leb-true _ _ p.0.1.0 in (
        omega (arith, size, few),
        rw m.1 m.3,
        drop-cons s 0 0 (leb-true _ _ p.0.0)
            ∙ ap (λ (n : ℕ). n ∷ drop 1 s) (sym size)
            ∙ ap (λ (l : List ℕ). length all ∷ l) (m.4 ∙ ap (λ (l : List A). all_words words l ++ rest) (sym m.1)),
      )
