-- A loop that puts words at the front of a slice, one a turn, as far as there is room: after i turns the first i of the lent part
-- are the first i words.
use Rattle.std.proofs.Common.{◌≡◌, ℕ, ◌+◌, ◌-◌, ◌<◌, min, List, ◌++◌, length, take, drop, set, get_or, sym, ap, ◌∙◌, arith, length-take, zero-add}
use Rattle.std.proofs.lemmas.List.{take_all, take_min, take_more, take_more_set}
use Rattle.words.specs.Placing.{within, placed_within}

module _ (words : List ℕ) where
  pub put-more : (part : List ℕ) (i : ℕ) {x : ℕ} → i < length part → i < length words → take i part ≡ take i words → x ≡ get_or words i 0
      → take (i + 1) (set part i x) ≡ take (i + 1) words
  put-more part i {x} h k so_far e = take_more_set part i x h ∙ rw (so_far, e) (sym (take_more words i 0 k))

  module _ (old : List ℕ) where
    -- as many as there is room for
    pub count : length (within old 0 words) ≡ min (length words) (length old)
    count = omega (arith, length-take (length old - 0) words)

    -- where the lent part is so long
    pub put_all : (part : List ℕ) (n i : ℕ) → n ≡ min (length words) (length old) → length part ≡ n → i ≡ n → take i part ≡ take i words
        → part ++ drop n old ≡ placed_within old 0 words
    put_all part n i e long done so_far =
        let many : length (within old 0 words) ≡ n = omega (arith, count) in
        let least : i ≡ min (length old - 0) (length words) = omega arith in
        let whole : part ≡ within old 0 words =
        sym (take_all i part (omega arith)) ∙ so_far ∙ ap (λ (k : ℕ). take k words) least ∙ take_min (length old - 0) words
        in
        rw (whole, many, zero-add n)
