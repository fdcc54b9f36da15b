-- For the crates above: what was unpacked, packed or placed, where there is room for all of it.
use mathlib.Core.Path.{◌≡◌, ap, ◌∙◌}
use mathlib.Core.List.{List, ◌++◌}
use Prim.Native.Nat.{ℕ, ◌+◌, ◌-◌, ◌*◌, ◌/◌, ◌≤◌}
use native.Mathlib.Omega.{arith}
use lib.ListN.{length, take, drop}
use lib.Seq.{take_all, take_at}
use Rattle.refusal.specs.Lent.{placed}
use Rattle.refusal.proofs.PlaceLaws.{length-placed, placed-then, placed-front}
use Rattle.words.specs.Words.{words_of, word_bytes, bytes_of}
use Rattle.words.specs.Placing.{within, placed_within}
use Rattle.words.proofs.PackedLaws.{length-words, length-bytes}

module _ (old : List ℕ) (at : ℕ) (words : List ℕ) (fits : at + length words ≤ length old) where
  all-within : within old at words ≡ words
  all-within = take_all (length old - at) words (omega arith)

  pub placed-all : placed_within old at words ≡ placed old at words
  placed-all = ap (placed old at) all-within

-- one run of words behind those that were placed before it
pub placed-behind : (old : List ℕ) (at to : ℕ) {slice next : List ℕ} (s t : List ℕ) → at + length s + length t ≤ length old
    → slice ≡ placed old at s → to ≡ at + length s → next ≡ placed_within slice to t → next ≡ placed old at (s ++ t)
placed-behind old at to {slice} s t h p e q =
    let long : length slice ≡ length old = ap length p ∙ length-placed old at s (omega arith) in
    q ∙ placed-all slice to t (omega (arith, long)) ∙ rw (p, e) (placed-then old at s t (omega arith))

-- the first words of the slice, lent as a part of it, are those of the bytes
pub unpacked : (old bytes : List ℕ) → length bytes / word_bytes ≤ length old → {words : List ℕ} {count : ℕ}
    → count ≡ length (within old 0 (words_of bytes)) → words ≡ placed_within old 0 (words_of bytes) → take (count - 0) words ≡ words_of bytes
unpacked old bytes h {words} {count} c w =
    let all : within old 0 (words_of bytes) ≡ words_of bytes = all-within old 0 (words_of bytes) (omega (arith, length-words bytes)) in
    let many : length (words_of bytes) ≡ count - 0 = omega (arith, c, ap length all) in
    ap (take (count - 0)) (w ∙ ap (placed old 0) all) ∙ take_at (words_of bytes) (drop (0 + length (words_of bytes)) old) (count - 0) many

-- the bytes of words, at the start of a slice
pub packed : (old words : List ℕ) → word_bytes * length words ≤ length old → {bytes : List ℕ} {count : ℕ}
    → count ≡ length (within old 0 (bytes_of words)) → bytes ≡ placed_within old 0 (bytes_of words)
    → (count ≡ length (bytes_of words)) × (bytes ≡ bytes_of words ++ drop (length (bytes_of words)) old)
packed old words h c b =
    let fits : 0 + length (bytes_of words) ≤ length old = omega (arith, length-bytes words) in
    (c ∙ ap length (all-within old 0 (bytes_of words) fits), b ∙ placed-all old 0 (bytes_of words) fits ∙ placed-front old (bytes_of words))
