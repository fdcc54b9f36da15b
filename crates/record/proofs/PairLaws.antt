-- The two words of a reading, as the pair of words that std gives: what stands in each, and what is read from it.
use mathlib.Core.Path.{◌≡◌, refl, sym, ap, ◌∙◌}
use mathlib.Core.Bool.{Bool, ◌&&◌}
use mathlib.Core.List.{List, [], ◌∷◌}
use Prim.Native.Nat.{ℕ, zero, suc, ◌+◌, ◌*◌, ◌/◌, ◌<◌, ◌≤◌}
use native.Mathlib.Nat.{le_refl}
use native.Mathlib.Numerals.{add-one}
use native.Mathlib.Omega.{arith}
use lib.ListN.{length, get_or, drop, take}
use lib.Seq.{take_all}
use Rattle.std.proofs.Common.{get_or-drop}
use Rattle.std.proofs.lemmas.List.Folds.{list_all_more}
use Rattle.std.specs.List.{list_all}
use Rattle.std.specs.Simd.{first_chunks}
use Rattle.refusal.specs.Outcome.{is_given}
use Rattle.refusal.specs.Outcome.Outcome.{refused}
use Rattle.refusal.specs.Numbers.{number_of}
use Rattle.refusal.specs.declared.Refusal.TheVariants as refusal
use Rattle.reading.specs.Readings.{reading_of}
use Rattle.reading.proofs.WordProofs.{unread}
use Rattle.reading.specs.Analytes.{analyte_from, with_amount}
use Rattle.record.specs.Record.{readings, mark_place, bits_place, read_at, all_below, are_readings}
use Rattle.record.proofs.AllBelow.{all_same}

pair_from : (xs : List ℕ) (count i : ℕ) → i < count → count ≤ length xs / 2 → get_or (first_chunks 2 count xs) i [] ≡ get_or xs (2 * i) 0 ∷ get_or xs (2 * i + 1) 0 ∷ []
pair_from xs zero i h k = absurd (omega arith)
pair_from [] (suc count) i h k = absurd (omega arith)
pair_from (x ∷ []) (suc count) i h k = absurd (omega arith)
pair_from (x ∷ y ∷ xs) (suc count) zero h k = refl
pair_from (x ∷ y ∷ xs) (suc count) (suc i) h k =
    let first : 2 * suc i ≡ suc (suc (2 * i)) = omega arith in
    let second : suc (suc (2 * i)) + 1 ≡ suc (suc (2 * i + 1)) = omega arith in
    rw (first, second) (pair_from xs count i (omega arith) (omega arith))

-- the same of the pairs that begin at word n
pub pair-at : {ws : List ℕ} (xs : List ℕ) (n i : ℕ) → ws ≡ drop n xs → i < length ws / 2
    → get_or (first_chunks 2 (length ws / 2) ws) i [] ≡ get_or xs (n + 2 * i) 0 ∷ get_or xs (n + 2 * i + 1) 0 ∷ []
pair-at {ws} xs n i e h =
    let next : n + (2 * i + 1) ≡ n + 2 * i + 1 = omega arith in
    pair_from ws _ i h (le_refl _) ∙ rw (e, get_or-drop n xs (2 * i) 0, get_or-drop n xs (2 * i + 1) 0, next)

module _ (s : List ℕ) where
  -- pair i is the words of reading i
  abbrev pub PairAt : List ℕ → ℕ → Type 0
  PairAt pair i = pair ≡ get_or s (mark_place i) 0 ∷ get_or s (bits_place i) 0 ∷ []

  pub analyte-at : (pair : List ℕ) (i : ℕ) → PairAt pair i → analyte_from (get_or pair 0 0) (get_or pair 1 0) ≡ with_amount (read_at s i)
  unfolding analyte_from read_at
  analyte-at pair i e = rw e

  -- whether a pair is a reading
  abbrev pub is-pair : List ℕ → Bool
  is-pair pair = is_given (reading_of (get_or pair 0 0) (get_or pair 1 0))

  is-pair-at : (pair : List ℕ) (i : ℕ) → PairAt pair i → is-pair pair ≡ is_given (read_at s i)
  unfolding read_at
  is-pair-at pair i e = rw e

  -- and whether all ten are
  module _ (pairs : List (List ℕ)) where
    first-pairs : (n : ℕ) → n ≤ length pairs → list_all is-pair (take n pairs) ≡ all_below (λ i. is-pair (get_or pairs i [])) n
    unfolding all_below
    first-pairs zero h = refl
    first-pairs (suc n) h =
        ap (λ m. list_all is-pair (take m pairs)) (sym (add-one n)) ∙ list_all_more is-pair pairs n [] (omega arith)
        ∙ ap (λ b. b && is-pair (get_or pairs n [])) (first-pairs n (omega arith))

    pub all-pairs : length pairs ≡ readings → ((i : ℕ) → i < readings → PairAt (get_or pairs i []) i) → list_all is-pair pairs ≡ are_readings s
    all-pairs long each =
        ap (list_all is-pair) (sym (take_all readings pairs (omega arith))) ∙ first-pairs readings (omega arith)
        ∙ all_same (λ i. is-pair (get_or pairs i [])) (λ i. is_given (read_at s i)) readings (λ i l. is-pair-at (get_or pairs i []) i (each i l))

  -- words that are no reading are refused as such
  pub none-at : (i n : ℕ) → read_at s i ≡ refused n → n ≡ number_of refusal.Reading
  unfolding read_at
  none-at i n e = unread _ _ n e
