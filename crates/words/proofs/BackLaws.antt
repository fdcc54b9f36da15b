-- What is read back: parts that have what their own reading asks are read from the words of their section, and nothing else is.
use mathlib.Core.Path.{◌≡◌, sym, ap, ◌∙◌}
use mathlib.Core.List.{List, [], ◌∷◌, ◌++◌, append_assoc, append-nil}
use Prim.Native.Nat.{ℕ, ◌≤◌}
use native.Mathlib.Omega.{arith}
use lib.ListN.{length}
use borrow.Author.Tests.{le-leb}
use Rattle.words.specs.FromFront.{Read, taken, many, section}
use Rattle.words.specs.Sections.{all_words, section_words}
use Rattle.words.specs.Each.{EachAfter}

-- a part that has P is taken where its words stand at the front
abbrev pub Returns : {A : Type 0} → (List A → A → Type 0) → (A → List ℕ) → (List A → List ℕ → Read A) → Type 0
Returns {A} P words part = (before : List A) (a : A) (rest : List ℕ) → P before a → part before (words a ++ rest) ≡ taken a rest

module _ {A : Type 0} (P : List A → A → Type 0) (words : A → List ℕ) (part : List A → List ℕ → Read A) (returns : Returns P words part) where
  many-back : (before new : List A) (rest : List ℕ) → EachAfter P before new → many part (length new) before (all_words words new ++ rest) ≡ taken (before ++ new) rest
  unfolding many all_words
  many-back before [] rest p = ap (λ (l : List A). taken l rest) (sym (append-nil before))
  many-back before (a ∷ new) rest p =
      rw (append_assoc (words a) (all_words words new) rest, returns before a (all_words words new ++ rest) p.0)
      (many-back (before ++ a ∷ []) new rest p.1 ∙ ap (λ (l : List A). taken l rest) (append_assoc before (a ∷ []) new))

  pub section-back : (most : ℕ) (all : List A) (rest : List ℕ) → length all ≤ most → EachAfter P [] all → section most part (section_words words all ++ rest) ≡ taken all rest
  unfolding section
  section-back most all rest few p =
      rw (le-leb 1 (length (section_words words all ++ rest)) (omega arith), le-leb (length all) most few) (many-back [] all rest p)
