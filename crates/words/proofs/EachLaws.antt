-- Properties of every part of a list: by both definitions, of two lists one behind the other, and by place.
use mathlib.Core.List.{List, [], ◌∷◌, ◌++◌}
use Prim.Native.Nat.{ℕ, zero, suc}
use lib.ListN.{get_or}
use Rattle.words.specs.Each.{Every, EachAfter}

module _ {A : Type 0} (P : List A → A → Type 0) (Q : A → Type 0) where
  -- what has P in the light of those before it has Q, and the other way round
  pub each-every : ((before : List A) (a : A) → P before a → Q a) → (before l : List A) → EachAfter P before l → Every Q l
  each-every f before [] p = tt
  each-every f before (a ∷ l) p = (f before a p.0, each-every f (before ++ a ∷ []) l p.1)

  pub every-each : ((before : List A) (a : A) → Q a → P before a) → (before l : List A) → Every Q l → EachAfter P before l
  every-each f before [] q = tt
  every-each f before (a ∷ l) q = (f before a q.0, every-each f (before ++ a ∷ []) l q.1)

module _ {A : Type 0} (P : A → Type 0) where
  pub every_append : (l t : List A) → Every P l → Every P t → Every P (l ++ t)
  every_append [] t p q = q
  every_append (a ∷ l) t p q = (p.0, every_append l t p.1 q)

  pub every-parts : (l t : List A) → Every P (l ++ t) → Every P l × Every P t
  every-parts [] t p = (tt, p)
  every-parts (a ∷ l) t p = let r = every-parts l t p.1 in ((p.0, r.0), r.1)

  -- by place, where what stands beyond the list has the property too
  module _ (beyond : A) where
    pub every-place : P beyond → (l : List A) → Every P l → (i : ℕ) → P (get_or l i beyond)
    every-place b [] p i = b
    every-place b (a ∷ l) p zero = p.0
    every-place b (a ∷ l) p (suc i) = every-place b l p.1 i

    pub place-every : (l : List A) → ((i : ℕ) → P (get_or l i beyond)) → Every P l
    place-every [] p = tt
    place-every (a ∷ l) p = (p 0, place-every l (λ i. p (suc i)))
