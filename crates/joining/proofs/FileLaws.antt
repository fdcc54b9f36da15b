-- Two files joined: by the tests on their bytes, through the joined words, to their bytes.
use mathlib.Core.Path.{◌≡◌, refl, sym, ap, ◌∙◌}
use mathlib.Core.Bool.{true, false}
use mathlib.Core.List.{List}
use Prim.Native.Nat.{ℕ, ◌-◌, ◌*◌, ◌≤◌, ◌<◌}
use native.Mathlib.Omega.{arith}
use lib.ListN.{length, take, drop}
use Rattle.refusal.specs.Outcome.{Outcome}
use Rattle.refusal.specs.Outcome.Outcome.{given, refused}
use Rattle.refusal.specs.Numbers.{number_of}
use Rattle.refusal.specs.Lent.{fitting, length_of, lent_after}
use Rattle.refusal.specs.declared.Refusal.TheVariants as refusal
use Rattle.refusal.proofs.LentLaws.{Answers, refused-before, too_short, written, told-answer, told-refusal}
use Rattle.words.specs.Words.{words_of, bytes_of, word_bytes}
use Rattle.words.specs.Placing.{within, placed_within}
use Rattle.words.proofs.PackedLaws.{length-bytes}
use Rattle.words.proofs.Laws.{packed}
use Rattle.words.proofs.SliceLaws.{front_of}
use Rattle.batch.specs.Batches.{Batch, batch_of, tested_by, test_of}
use Rattle.batch.specs.Input.{most_words, is_input}
use Rattle.batch.proofs.Laws.{layout-laws}
use Rattle.joining.specs.Joins.{joined, joined_by, joined_of}
use Rattle.joining.specs.Files.{file_of, as_bytes, joined_file}
use Rattle.joining.specs.Steps.{number_after}
use Rattle.joining.proofs.Laws.{joins-two}

-- ---- words lent as bytes

module _ (words old : List ℕ) where
  pub bytes-short : length old < word_bytes * length words → Answers (given (bytes_of words)) old (refused (number_of refusal.OutputLength)) old
  bytes-short h = too_short (given (bytes_of words)) old (bytes_of words) refl (omega (arith, length-bytes words))

  pub bytes-written : word_bytes * length words ≤ length old → {count : ℕ} {bytes : List ℕ}
      → count ≡ length (within old 0 (bytes_of words)) → bytes ≡ placed_within old 0 (bytes_of words) → Answers (given (bytes_of words)) old (given count) bytes
  bytes-written h c b =
      let all = packed old words h c b in
      written (given (bytes_of words)) old (bytes_of words) refl (omega (arith, length-bytes words)) all.0 all.1

-- ---- the joined words, in a buffer that every joined batch fits

module _ (first second : List ℕ) where
  joined-fits : (w : List ℕ) → joined_of first second ≡ given w → length w ≤ most_words
  joined-fits w e =
      let j = joins-two first second w e in
      rw j.says.laid (layout-laws.fits (joined j.a j.b) j.says.valid)

  module _ (start : List ℕ) (room : length start ≡ most_words) {x : Outcome ℕ}
      (told : x ≡ length_of (fitting (length start) (joined_of first second))) where
    module _ {size : ℕ} {buffer : List ℕ} (is : x ≡ given size) (made : buffer ≡ lent_after (fitting (length start) (joined_of first second)) start) where
      there : (joined_of first second ≡ given (take size buffer)) × (size ≤ length buffer)
      there = told-answer start (joined_of first second) (sym is ∙ told) made

      pub made_inside : size ≤ length buffer
      made_inside = there.1

      pub made_bytes : (old : List ℕ) (r : Outcome ℕ) (new : List ℕ) → Answers (given (bytes_of (take (size - 0) (drop 0 buffer)))) old r new
          → Answers (as_bytes (joined_of first second)) old r new
      made_bytes old r new d = rw (ap as_bytes there.0 ∙ ap (λ (w : List ℕ). given (bytes_of w)) (sym (front_of buffer size))) d

    pub none_made : (old : List ℕ) {n : ℕ} → x ≡ refused n → Answers (as_bytes (joined_of first second)) old (refused n) old
    none_made old {n} is =
        let same = told-refusal (joined_of first second) (length start) (λ w e. rw room (joined-fits w e)) (sym is ∙ told) in
        refused-before (as_bytes (joined_of first second)) old n (sym (ap as_bytes same))

-- ---- a file's bytes

module _ (bytes : List ℕ) where
  no-input : is_input bytes ≡ false → file_of bytes ≡ refused (number_of refusal.BatchLength)
  unfolding file_of
  no-input h = rw h

  file-read : is_input bytes ≡ true → file_of bytes ≡ batch_of (words_of bytes)
  unfolding file_of
  file-read h = rw h

-- the second file's are no batch's: the first batch's own refusal, or 8
after_first : (x : Outcome Batch) → joined_by x (refused (number_of refusal.BatchLength)) ≡ refused (number_after (tested_by x))
after_first (given a) = refl
after_first (refused n) = refl

module _ (words second old : List ℕ) where
  pub second-no-input : is_input second ≡ false → {n : ℕ} → n ≡ number_after (test_of words)
      → Answers (as_bytes (joined_by (batch_of words) (file_of second))) old (refused n) old
  unfolding test_of
  second-no-input h {n} e =
      let same : joined_by (batch_of words) (file_of second) ≡ refused n = ap (joined_by (batch_of words)) (no-input second h) ∙ after_first (batch_of words) ∙ ap refused (sym e) in
      refused-before (as_bytes (joined_by (batch_of words) (file_of second))) old n (sym (ap as_bytes same))

  pub second-read : is_input second ≡ true → {lent : List ℕ} → lent ≡ words_of second → (r : Outcome ℕ) (new : List ℕ)
      → Answers (as_bytes (joined_of words lent)) old r new → Answers (as_bytes (joined_by (batch_of words) (file_of second))) old r new
  unfolding joined_of
  second-read h {lent} e r new d = rw (file-read second h, sym e) d

module _ (first second old : List ℕ) where
  pub first-no-input : is_input first ≡ false → Answers (joined_file first second) old (refused (number_of refusal.BatchLength)) old
  unfolding joined_file
  first-no-input h =
      refused-before (as_bytes (joined_by (file_of first) (file_of second))) old (number_of refusal.BatchLength)
      (sym (ap (λ (x : Outcome Batch). as_bytes (joined_by x (file_of second))) (no-input first h)))

  pub first_read : is_input first ≡ true → {lent : List ℕ} → lent ≡ words_of first → (r : Outcome ℕ) (new : List ℕ)
      → Answers (as_bytes (joined_by (batch_of lent) (file_of second))) old r new → Answers (joined_file first second) old r new
  unfolding joined_file
  first_read h {lent} e r new d = rw (file-read first h, sym e) d
