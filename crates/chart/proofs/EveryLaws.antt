-- A test of every value of a list: of two lists in one, and of one value more in a loop that remembers whether one failed.
use mathlib.Core.Path.{◌≡◌, refl, sym, ap, ◌∙◌}
use mathlib.Core.Bool.{Bool, true, ◌&&◌, and-true, and_assoc}
use mathlib.Core.List.{List, [], ◌∷◌, ◌++◌}
use Prim.Native.Nat.{ℕ, zero, suc, ◌+◌, ◌<◌}
use native.Mathlib.Omega.{arith}
use lib.ListN.{length, get_or, take, drop}
use Rattle.std.proofs.lemmas.List.{take_more, take-append-drop}
use Rattle.refusal.proofs.Testing.{both}
use Rattle.chart.specs.Values.{every}

module _ (f : ℕ → Bool) where
  pub every_append : (a l : List ℕ) → every f (a ++ l) ≡ (every f a && every f l)
  unfolding every
  every_append [] l = refl
  every_append (v ∷ a) l = ap (λ (b : Bool). f v && b) (every_append a l) ∙ sym (and_assoc (f v) (every f a) (every f l))

  pub every_more : (l : List ℕ) (i : ℕ) → i < length l → every f (take (i + 1) l) ≡ (every f (take i l) && f (get_or l i 0))
  unfolding every
  every_more l i h = rw (take_more l i 0 h, every_append, and-true)

  pub every_at : (l : List ℕ) (i : ℕ) → i < length l → every f l ≡ true → f (get_or l i 0) ≡ true
  unfolding every
  every_at [] i h e = absurd (omega arith)
  every_at (v ∷ l) zero h e = (both (f v) (every f l) e).0
  every_at (v ∷ l) (suc i) h e = every_at l i (omega arith) (both (f v) (every f l) e).1

  -- a part that is lent
  pub every_part : (n k : ℕ) (l : List ℕ) → every f l ≡ true → every f (take n (drop k l)) ≡ true
  every_part n k l e =
      let rest = (both _ _ (sym (every_append (take k l) (drop k l)) ∙ ap (every f) (take-append-drop k l) ∙ e)).1 in
      (both _ _ (sym (every_append (take n (drop k l)) (drop n (drop k l))) ∙ ap (every f) (take-append-drop n (drop k l)) ∙ rest)).0
