-- A record with two other words for one reading: all else is as it was.
use mathlib.Core.Path.{◌≡◌, ◌∙◌}
use mathlib.Core.List.{List}
use Prim.Native.Nat.{ℕ, ◌<◌}
use native.Mathlib.Decide.{ℕ_discrete}
use native.Mathlib.Omega.{arith}
use lib.ListN.{get_or, set}
use lib.Seq.{get_or-set_other}
use Rattle.reading.specs.Finer.{Finer}
use Rattle.record.specs.Record.{organic_carbon, mark_place, bits_place, read_at, reading_at}
use Rattle.judge.specs.Finer.{FinerRecord}

abbrev pub reread : List ℕ → ℕ → ℕ → ℕ → List ℕ
reread s i mark bits = set (set s (mark_place i) mark) (bits_place i) bits

module _ (s : List ℕ) (i mark bits : ℕ) where
  elsewhere : (j : ℕ) → (j ≡ mark_place i → ⊥) → (j ≡ bits_place i → ⊥) → get_or (reread s i mark bits) j 0 ≡ get_or s j 0
  elsewhere j n m = get_or-set_other (set s (mark_place i) mark) (bits_place i) j bits 0 m ∙ get_or-set_other s (mark_place i) j mark 0 n

  other-reading : (k : ℕ) → (k ≡ i → ⊥) → reading_at (reread s i mark bits) k ≡ reading_at s k
  unfolding read_at reading_at
  other-reading k n =
      rw (elsewhere (mark_place k) (λ e. n (omega arith)) (λ e. omega arith), elsewhere (bits_place k) (λ e. omega arith) (λ e. n (omega arith)))

  -- it is a finer record where that reading is a finer one, and is not DOC
  pub reread-finer : i < organic_carbon → Finer (reading_at s i) (reading_at (reread s i mark bits) i) → FinerRecord s (reread s i mark bits)
  reread-finer l f =
      record {
        others = λ j n. let p = n i (omega arith) in elsewhere j p.0 p.1;
        finer = λ k b. go k (ℕ_discrete k i);
        carbon = other-reading organic_carbon (λ e. omega arith);
      }
    where
      go : (k : ℕ) → Dec (k ≡ i) → Finer (reading_at s k) (reading_at (reread s i mark bits) k)
      go k (yes e) = rw e f
      go k (no n) = rw (other-reading k n) (Finer.same (reading_at s k))
