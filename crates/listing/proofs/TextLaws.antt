-- The text of bytes, by the test of their length; and a text made apart, which is lent from its start.
use mathlib.Core.Bool.{true, false}
use mathlib.Core.Path.{◌≡◌, ap, ◌∙◌}
use mathlib.Core.List.{List, ◌++◌}
use Prim.Native.Nat.{ℕ, ◌≤◌}
use native.Mathlib.Omega.{arith}
use lib.ListN.{length, take, drop, length-append}
use lib.Seq.{take_at}
use Rattle.refusal.specs.declared.Refusal.TheVariants as refusal
use Rattle.refusal.specs.Numbers.{number_of}
use Rattle.words.specs.Words.{words_of}
use Rattle.batch.specs.Rows.{batch_answer}
use Rattle.batch.specs.Input.{is_input}
use Rattle.listing.specs.Listing.{refused_text, text_of, list_text, TextFits}
use Rattle.listing.proofs.LengthLaws.{text-fits}

module _ (b : List ℕ) where
  -- bytes of another length are refused before any other test
  pub text-refused-first : is_input b ≡ false → list_text b ≡ refused_text (number_of refusal.BatchLength)
  unfolding list_text text_of
  text-refused-first h = simp h

  -- any others are read as words, and the words judged
  pub text-judged : is_input b ≡ true → list_text b ≡ text_of (batch_answer (words_of b))
  unfolding list_text
  text-judged h = simp h

  -- written to the start of a text, it is all that is promised of it
  pub text-written : {s text : List ℕ} {k : ℕ} (old : List ℕ) → list_text b ≡ s → k ≡ length s → text ≡ s ++ drop (length s) old
      → (k ≡ length (list_text b)) × ((text ≡ list_text b ++ drop (length (list_text b)) old) × ((k ≤ length text) × TextFits))
  text-written {s} old e l t = rw e (l, (t, (omega (arith, ap length t, length-append s (drop (length s) old)), text-fits)))

-- a text made apart, lent from its start
pub text-made : (s old : List ℕ) {made : List ℕ} {k : ℕ} → k ≡ length s → made ≡ s ++ drop (length s) old → take k made ≡ s
text-made s old {made} {k} e m = ap (take k) m ∙ take_at s (drop (length s) old) k (omega arith)
