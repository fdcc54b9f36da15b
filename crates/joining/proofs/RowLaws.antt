-- The rows of a joined batch: each sample's number and verdicts are those of its own batch, and its flag is by the joined charts.
use mathlib.Core.Path.{◌≡◌, refl, sym, ap, ◌∙◌}
use mathlib.Core.Bool.{cond}
use mathlib.Core.List.{List, [], ◌∷◌, ◌++◌, append-nil}
use Prim.Native.Nat.{ℕ, zero, suc, ◌+◌, ◌*◌, ◌<◌}
use native.Mathlib.Omega.{arith}
use lib.ListN.{length, get_or, take, drop}
use lib.Seq.{drop-append-add, get_or-drop}
use Rattle.chart_section.specs.ChartSection.{Chart}
use Rattle.batch.specs.Batches.{Sample}
use Rattle.batch.specs.Rows.{row_words, flagged, row_of, rows_of}
use Rattle.joining.specs.Promise.{kept_words, kept_in, flag_in, record_at}

module _ (cs : List Chart) where
  -- behind the first row
  next_row : (a : Sample) (l : List Sample) (i : ℕ) → drop (row_words * suc i) (row_of cs a ++ rows_of cs l) ≡ drop (row_words * i) (rows_of cs l)
  next_row a l i =
      let e : row_words * suc i ≡ length (row_of cs a) + row_words * i = omega arith in
      rw e (drop-append-add (row_of cs a) (rows_of cs l) (row_words * i))

  rows_behind : (l t : List Sample) (i : ℕ) → drop (row_words * (length l + i)) (rows_of cs (l ++ t)) ≡ drop (row_words * i) (rows_of cs t)
  unfolding rows_of
  rows_behind [] t i = let e : row_words * (0 + i) ≡ row_words * i = omega arith in rw e
  rows_behind (a ∷ l) t i =
      let e : row_words * (suc (length l) + i) ≡ row_words * suc (length l + i) = omega arith in
      rw e (next_row a (l ++ t) (length l + i) ∙ rows_behind l t i)

  flag_at : (l : List Sample) (i : ℕ) → i < length l → get_or (drop (row_words * i) (rows_of cs l)) kept_words 0 ≡ cond (flagged cs (record_at l i)) 1 0
  unfolding rows_of record_at
  flag_at [] i h = absurd (omega arith)
  flag_at (a ∷ l) zero h = refl
  flag_at (a ∷ l) (suc i) h = ap (λ (w : List ℕ). get_or w kept_words 0) (next_row a l i) ∙ flag_at l i (omega arith)

  pub flag-of : (n : ℕ) (l : List Sample) (i : ℕ) → i < length l → flag_in i (n ∷ rows_of cs l) ≡ cond (flagged cs (record_at l i)) 1 0
  flag-of n l i h =
      sym (get_or-drop (1 + row_words * i) (n ∷ rows_of cs l) kept_words 0)
      ∙ rw (drop-append-add (n ∷ []) (rows_of cs l) (row_words * i)) (flag_at l i h)

module _ (cs ds : List Chart) where
  kept : (l t : List Sample) (i : ℕ) → i < length l → take kept_words (drop (row_words * i) (rows_of cs (l ++ t))) ≡ take kept_words (drop (row_words * i) (rows_of ds l))
  unfolding rows_of
  kept [] t i h = absurd (omega arith)
  kept (a ∷ l) t zero h = refl
  kept (a ∷ l) t (suc i) h = ap (take kept_words) (next_row cs a (l ++ t) i) ∙ kept l t i (omega arith) ∙ ap (take kept_words) (sym (next_row ds a l i))

  module _ (n m : ℕ) (l t : List Sample) (i : ℕ) where
    pub kept-first : i < length l → kept_in i (n ∷ rows_of cs (l ++ t)) ≡ kept_in i (m ∷ rows_of ds l)
    kept-first h =
        rw (drop-append-add (n ∷ []) (rows_of cs (l ++ t)) (row_words * i), drop-append-add (m ∷ []) (rows_of ds l) (row_words * i)) (kept l t i h)

    pub kept_second : i < length t → kept_in (length l + i) (n ∷ rows_of cs (l ++ t)) ≡ kept_in i (m ∷ rows_of ds t)
    kept_second h =
        let same = kept t [] i h in
        let own : take kept_words (drop (row_words * i) (rows_of cs t)) ≡ take kept_words (drop (row_words * i) (rows_of ds t)) = rw append-nil at same in
        rw (drop-append-add (n ∷ []) (rows_of cs (l ++ t)) (row_words * (length l + i)), drop-append-add (m ∷ []) (rows_of ds t) (row_words * i))
        (ap (take kept_words) (rows_behind cs l t i) ∙ own)
