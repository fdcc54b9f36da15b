-- Of a buffer whose first bytes were read and made words: what is said of them, and what the lent slice then holds.
use mathlib.Core.Path.{◌≡◌, sym, ap}
use mathlib.Core.List.{List}
use Prim.Native.Nat.{ℕ, suc, ◌-◌, ◌/◌, ◌≤◌, ◌<◌}
use native.Mathlib.Omega.{arith}
use native.Mathlib.Decide.{dec_le}
use mir.Syntax.{w8}
use mir.Val.{Fits}
use lib.ListN.{length, get_or, take, length-take, get_or-eq_default}
use lib.Seq.{get_or-take, length-take-le}
use Rattle.words.specs.Words.{words_of, word_bytes}
use Rattle.words.specs.Placing.{within, placed_within}
use Rattle.words.proofs.Laws.{unpacked}
use Rattle.input.specs.Input.{most_bytes, Came}

-- the first of them are bytes too, and where there is none, 0 stands for it
first-bytes : (l : List ℕ) → ((i : ℕ) → get_or l i 0 < 256) → (n i : ℕ) → get_or (take n l) i 0 < 256
first-bytes l bytes n i = go (dec_le (suc i) n)
  where
    go : Dec (suc i ≤ n) → get_or (take n l) i 0 < 256
    go (yes h) = rw (get_or-take n l i 0 h) (bytes i)
    go (no h) = let none : length (take n l) ≤ i = omega (arith, length-take n l) in rw (get_or-eq_default (take n l) 0 none) (omega arith)

module _ (old buffer : List ℕ) (got : ℕ) (bytes : (i : ℕ) → Fits w8 (get_or buffer i 0)) (h : got ≤ length buffer) (few : got ≤ most_bytes old) where
  -- as the code lends them
  abbrev lent_bytes : List ℕ
  lent_bytes = take got buffer

  counted : length lent_bytes ≡ got
  counted = length-take-le got buffer h

  pub came : {count : ℕ} {new : List ℕ} → count ≡ length (within old 0 (words_of lent_bytes)) → new ≡ placed_within old 0 (words_of lent_bytes) → count ≤ length new
      → Came old new (record { bytes = got; words = count })
  came {count} {new} many lent inside =
      let room : length lent_bytes / word_bytes ≤ length old = omega (arith, counted) in
      let first : take (count - 0) new ≡ words_of lent_bytes = unpacked old lent_bytes room many lent in
      record {
        read = lent_bytes;
        are_bytes = first-bytes buffer (λ (i : ℕ). (bytes i).fits) got;
        few = omega (arith, counted);
        bytes = sym counted;
        words = omega (arith, ap length first, length-take (count - 0) new);
        lent = lent;
      }
