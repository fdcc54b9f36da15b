-- Elements of which none comes twice: those of one list behind those of another, and how many there can be.
use mathlib.Core.Path.{◌≡◌, refl, sym, ap, ◌∙◌}
use mathlib.Core.Bool.{Bool, true, false, ◌||◌, not, cond}
use mathlib.Core.List.{List, [], ◌∷◌, ◌++◌, append_assoc, append-nil}
use Prim.Native.Nat.{ℕ, zero, suc, ◌+◌, ◌≤◌, ◌<◌}
use native.Mathlib.Omega.{arith}
use lib.Dec.{eqb, leb}
use lib.ListN.{length}
use borrow.Author.Tests.{eqb-true, eqb-false, leb-true}
use Rattle.refusal.proofs.Testing.{both}
use Rattle.record.specs.Record.{is_element, readings}
use Rattle.chart_section.specs.ChartSection.{most_charts, member, is_new_element}

-- each is one of ten and none of those used before it
abbrev pub New : List ℕ → List ℕ → Type 0
New used [] = Unit {0}
New used (e ∷ l) = (is_new_element used e ≡ true) × New (used ++ e ∷ []) l

-- ---- members of two lists

or_assoc : (a b c : Bool) → ((a || b) || c) ≡ (a || (b || c))
or_assoc true b c = refl
or_assoc false b c = refl

pub member-append : (e : ℕ) (l t : List ℕ) → member e (l ++ t) ≡ (member e l || member e t)
unfolding member
member-append e [] t = refl
member-append e (x ∷ l) t = rw (member-append e l t) (sym (or_assoc (eqb x e) (member e l) (member e t)))

-- ---- how many there can be

-- the numbers from 1 to n that are not used
abbrev unused : ℕ → List ℕ → ℕ
unused zero used = 0
unused (suc n) used = unused n used + cond (member (suc n) used) 0 1

-- one more used: none of the others comes back
step : (used : List ℕ) (e k : ℕ) → cond (member k (used ++ e ∷ [])) 0 1 ≤ cond (member k used) 0 1
unfolding member
step used e k = rw (member-append k used (e ∷ [])) (go (member k used) (eqb e k))
  where
    go : (a b : Bool) → cond (a || (b || false)) 0 1 ≤ cond a 0 1
    go true b = omega arith
    go false true = omega arith
    go false false = omega arith

fewer : (n : ℕ) (used : List ℕ) (e : ℕ) → unused n (used ++ e ∷ []) ≤ unused n used
fewer zero used e = omega arith
fewer (suc n) used e = omega (arith, fewer n used e, step used e (suc n))

one_fewer : (n : ℕ) (used : List ℕ) (e : ℕ) → 1 ≤ e → e ≤ n → member e used ≡ false → unused n (used ++ e ∷ []) < unused n used
unfolding member
one_fewer zero used e l h m = absurd (omega arith)
one_fewer (suc n) used e l h m = go (eqb e (suc n)) refl (λ k. one_fewer n used e l k m)
  where
    go : (b : Bool) → eqb e (suc n) ≡ b → (e ≤ n → unused n (used ++ e ∷ []) < unused n used) → unused (suc n) (used ++ e ∷ []) < unused (suc n) used
    go true q rec =
        let same : e ≡ suc n = eqb-true e (suc n) q in
        let now : member (suc n) used ≡ false = ap (λ (k : ℕ). member k used) (sym same) ∙ m in
        let after : member (suc n) (used ++ e ∷ []) ≡ true = member-append (suc n) used (e ∷ []) ∙ rw (now, q) in
        rw (now, after) (omega (arith, fewer n used e))
    go false q rec =
        let other : e ≡ suc n → ⊥ = eqb-false e (suc n) q in
        omega (arith, rec (omega arith), step used e (suc n))

element-within : (used : List ℕ) (e : ℕ) → is_new_element used e ≡ true → (1 ≤ e) × (e ≤ readings) × (member e used ≡ false)
element-within used e h =
    let p = both (is_element e) (not (member e used)) h in
    let q = both (leb 1 e) (leb e readings) p.0 in
    (leb-true 1 e q.0, leb-true e readings q.1, flip (member e used) p.1)
  where
    flip : (b : Bool) → not b ≡ true → b ≡ false
    flip true z = sym z
    flip false z = refl

few-left : (used l : List ℕ) → New used l → length l ≤ unused readings used
few-left used [] n = omega arith
few-left used (e ∷ l) n =
    let w = element-within used e n.0 in
    omega (arith, few-left (used ++ e ∷ []) l n.1, one_fewer readings used e w.0 w.1 w.2)

pub few-elements : (l : List ℕ) → New [] l → length l ≤ most_charts
unfolding member
few-elements l n = few-left [] l n

-- ---- one list after another

pub new-append : (used l t : List ℕ) → New used l → New (used ++ l) t → New used (l ++ t)
new-append used [] t n m = rw append-nil at m
new-append used (e ∷ l) t n m =
    let m' : New ((used ++ e ∷ []) ++ l) t = rw (append_assoc used (e ∷ []) l) m in
    (n.0, new-append (used ++ e ∷ []) l t n.1 m')
