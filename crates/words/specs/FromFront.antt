-- Document 01, 'A batch': words read from the front, a part at a time.
use Rattle.std.specs.Prelude.{List, [], ◌∷◌, ◌++◌, ℕ, zero, suc, leb, length, get_or, drop}
use Rattle.refusal.specs.Outcome.{Outcome, demand}
use Rattle.refusal.specs.Outcome.Outcome.{given, refused}
use Rattle.refusal.specs.Numbers.{number_of}
use Rattle.refusal.specs.declared.Refusal.TheVariants as refusal

-- what reading a part gives: the part and the words after it, or the number of a refusal
abbrev pub Read : Type 0 → Type 0
Read A = Outcome (A × List ℕ)

abbrev pub taken : {A : Type 0} → A → List ℕ → Read A
taken part rest = given (part, rest)

-- a part, and then what follows from it and from the words after it
abbrev pub then : {A B : Type 0} → Read A → (A → List ℕ → Outcome B) → Outcome B
then (given p) next = next p.0 p.1
then (refused n) next = refused n

-- 'each part whole (else 8) before its tests': so many words are there
abbrev pub whole : {A : Type 0} → ℕ → List ℕ → Outcome A → Outcome A
whole n s rest = demand (leb n (length s)) (number_of refusal.BatchLength) rest

-- so many parts one after another, put behind those before; each is read in the light of those
unfoldable pub many : {A : Type 0} → (List A → List ℕ → Read A) → ℕ → List A → List ℕ → Read (List A)
many part zero before s = taken before s
many part (suc n) before s = then (part before s) (λ a rest. many part n (before ++ a ∷ []) rest)

-- 'Two sections, each after its count', 'a section's count 9'
unfoldable pub section : {A : Type 0} → ℕ → (List A → List ℕ → Read A) → List ℕ → Read (List A)
section most part s =
    whole 1 s
    (demand (leb (get_or s 0 0) most) (number_of refusal.Count)
    (many part (get_or s 0 0) [] (drop 1 s)))
