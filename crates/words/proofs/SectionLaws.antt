-- The words of parts that are given as values: of two lists one behind the other, how many there are at most, and a property of
-- every one of them.
use mathlib.Core.Path.{◌≡◌, refl, sym}
use mathlib.Core.List.{List, [], ◌∷◌, ◌++◌, append_assoc}
use Prim.Native.Nat.{ℕ, ◌*◌, ◌≤◌}
use native.Mathlib.Omega.{arith}
use lib.ListN.{length, length-append}
use Rattle.words.specs.Each.{Every}
use Rattle.words.specs.Sections.{all_words}
use Rattle.words.proofs.EachLaws.{every_append, every-parts}

module _ {A : Type 0} (words : A → List ℕ) where
  pub words_append : (l t : List A) → all_words words (l ++ t) ≡ all_words words l ++ all_words words t
  unfolding all_words
  words_append [] t = refl
  words_append (a ∷ l) t = rw (words_append l t) (sym (append_assoc (words a) (all_words words l) (all_words words t)))

  pub words-most : (most : ℕ) (l : List A) → Every (λ a. length (words a) ≤ most) l → length (all_words words l) ≤ most * length l
  unfolding all_words
  words-most most [] p = omega arith
  words-most most (a ∷ l) p = omega (arith, length-append (words a) (all_words words l), p.0, words-most most l p.1)

  module _ (P : ℕ → Type 0) where
    pub words-parts : (l : List A) → Every P (all_words words l) → Every (λ a. Every P (words a)) l
    unfolding all_words
    words-parts [] p = tt
    words-parts (a ∷ l) p = let r = every-parts P (words a) (all_words words l) p in (r.0, words-parts l r.1)

    pub parts-words : (l : List A) → Every (λ a. Every P (words a)) l → Every P (all_words words l)
    unfolding all_words
    parts-words [] p = tt
    parts-words (a ∷ l) p = every_append P (words a) (all_words words l) p.0 (parts-words l p.1)
