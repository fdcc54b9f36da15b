-- Parts read one after another, and a section of them: what a loop over the parts cites at its start, in a turn, where a part is
-- refused and at its end. For any part and any greatest count; i of count parts have been read.
use mathlib.Core.Path.{◌≡◌, ap}
use mathlib.Core.List.{List, [], ◌∷◌, ◌++◌}
use Prim.Native.Nat.{ℕ, suc, ◌+◌, ◌-◌, ◌≤◌, ◌<◌}
use native.Mathlib.Omega.{arith}
use borrow.Author.Tests.{le-leb, lt-leb}
use lib.ListN.{length, get_or, drop}
use Rattle.refusal.specs.Outcome.{Outcome}
use Rattle.refusal.specs.Outcome.Outcome.{refused}
use Rattle.refusal.specs.Numbers.{number_of}
use Rattle.refusal.specs.declared.Refusal.TheVariants as refusal
use Rattle.words.specs.FromFront.{Read, taken, then, many, section}

module _ {A B : Type 0} {x : Read A} (next : A → List ℕ → Outcome B) where
  pub then-taken : {a : A} {rest : List ℕ} → x ≡ taken a rest → then x next ≡ next a rest
  then-taken e = rw e

  pub then-refused : {n : ℕ} → x ≡ refused n → then x next ≡ refused n
  then-refused e = rw e

module _ {A : Type 0} (part : List A → List ℕ → Read A) where
  module _ (count i : ℕ) (before : List A) (s : List ℕ) where
    pub many-none : count ≤ i → many part (count - i) before s ≡ taken before s
    unfolding many
    many-none h = let e : count - i ≡ 0 = omega arith in rw e

    pub many-refused : {n : ℕ} → i < count → part before s ≡ refused n → many part (count - i) before s ≡ refused n
    unfolding many
    many-refused h e = let k : count - i ≡ suc (count - (i + 1)) = omega arith in rw k (rw e)

    pub many-next : {a : A} {rest : List ℕ} → i < count → part before s ≡ taken a rest
        → many part (count - i) before s ≡ many part (count - (i + 1)) (before ++ a ∷ []) rest
    unfolding many
    many-next h e = let k : count - i ≡ suc (count - (i + 1)) = omega arith in rw k (rw e)

  module _ (most : ℕ) (s : List ℕ) where
    pub section-short : length s < 1 → section most part s ≡ refused (number_of refusal.BatchLength)
    unfolding section
    section-short h = rw (lt-leb 1 (length s) h)

    pub section-over : 1 ≤ length s → most < get_or s 0 0 → section most part s ≡ refused (number_of refusal.Count)
    unfolding section
    section-over h k = rw (le-leb 1 (length s) h, lt-leb (get_or s 0 0) most k)

    pub section-begins : (count : ℕ) → 1 ≤ length s → get_or s 0 0 ≡ count → count ≤ most
        → section most part s ≡ many part (count - 0) [] (drop 1 s)
    unfolding section
    section-begins count h e k =
        let z : get_or s 0 0 ≡ count - 0 = omega arith in
        let l : get_or s 0 0 ≤ most = omega arith in
        rw (le-leb 1 (length s) h, le-leb (get_or s 0 0) most l) (ap (λ (n : ℕ). many part n [] (drop 1 s)) z)
