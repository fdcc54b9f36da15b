-- The signal words as a loop writes them, one a turn, to the front of a slice; and the last of them.
use mathlib.Core.Path.{◌≡◌, refl, sym, ◌∙◌}
use mathlib.Core.List.{List, []}
use Prim.Native.Nat.{ℕ, zero, suc, ◌+◌, ◌-◌, ◌≤◌, ◌<◌}
use native.Mathlib.Numerals.{add-one}
use native.Mathlib.Omega.{arith}
use lib.ListN.{length, get_or, take, set, length-append, get_or-eq_default}
use lib.Seq.{get_or_at}
use Rattle.std.proofs.lemmas.List.{take_all, take_more_set}
use Rattle.chart.specs.Setups.{SetupTerms, setup_of}
use Rattle.chart.specs.Rules.{signal_at}
use Rattle.chart.specs.Charts.{first_words, signal_words, last_word}

module _ (f : SetupTerms) (l : List ℕ) where
  length-first : (k : ℕ) → length (first_words f l k) ≡ k
  unfolding first_words
  length-first zero = refl
  length-first (suc k) = length-append (first_words f l k) _ ∙ omega (arith, length-first k)

  -- ---- the loop: after i turns the first i words are written
  pub none_written : (out : List ℕ) → take 0 out ≡ first_words f l 0
  unfolding first_words
  none_written out = refl

  pub one_more : (out : List ℕ) (i w : ℕ) → i < length out → take i out ≡ first_words f l i → w ≡ signal_at f l i
      → take (i + 1) (set out i w) ≡ first_words f l (i + 1)
  unfolding first_words
  one_more out i w h p q = rw (take_more_set out i w h, add-one, p, q)

  -- ---- the last of them
  last-at : (k : ℕ) → 1 ≤ k → get_or (first_words f l k) (k - 1) 0 ≡ signal_at f l (k - 1)
  unfolding first_words
  last-at zero h = absurd (omega arith)
  last-at (suc k) h =
      let e : suc k - 1 ≡ k = omega arith in
      rw e (get_or_at (first_words f l k) (signal_at f l k) [] 0 k (length-first k))

module _ (a l : List ℕ) where
  pub length-words : length (signal_words a l) ≡ length l
  unfolding signal_words
  length-words = length-first (setup_of a) l (length l)

  pub all-written : (out : List ℕ) {i : ℕ} → i ≡ length l → length out ≤ i → take i out ≡ first_words (setup_of a) l i → out ≡ signal_words a l
  unfolding signal_words
  all-written out {i} e h p = rw (sym e) (sym (take_all i out h) ∙ p)

  pub last-is : 1 ≤ length l → signal_at (setup_of a) l (length l - 1) ≡ last_word a l
  unfolding last_word signal_words
  last-is h = sym (last-at (setup_of a) l (length l) h)

  pub no_last : length l ≡ 0 → 0 ≡ last_word a l
  unfolding last_word
  no_last e = sym (get_or-eq_default (signal_words a l) 0 {n = length l - 1} (omega (arith, length-words)))
