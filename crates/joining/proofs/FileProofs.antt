-- A joined file is read as the joined batch: its words have 32 bits, and it has no more bytes than a batch may.
use mathlib.Core.Path.{◌≡◌, refl, sym, ap, ◌∙◌}
use mathlib.Core.Bool.{true}
use mathlib.Core.List.{List, [], ◌∷◌}
use Prim.Native.Nat.{ℕ, ◌%◌, ◌≤◌}
use native.Mathlib.Omega.{arith}
use lib.ListN.{length}
use borrow.Author.Tests.{eq-eqb, le-leb}
use Rattle.refusal.specs.Outcome.{Outcome}
use Rattle.refusal.specs.Outcome.Outcome.{given, refused}
use Rattle.refusal.specs.Numbers.{number_of}
use Rattle.refusal.specs.declared.Refusal.TheVariants as refusal
use Rattle.refusal.proofs.Rows.{row-given}
use Rattle.refusal.proofs.Outcomes.{never}
use Rattle.words.specs.Each.{Every}
use Rattle.words.specs.Words.{words_of, bytes_of, word_bytes}
use Rattle.words.proofs.EachLaws.{every-place, place-every}
use Rattle.words.proofs.PackedLaws.{Byte, Word, length-bytes, words_back, words_small}
use Rattle.batch.specs.Batches.{Batch, batch_of}
use Rattle.batch.specs.Input.{most_words, most_bytes, is_input}
use Rattle.batch.specs.Layout.{layout}
use Rattle.batch.proofs.Laws.{layout-laws}
use Rattle.joining.specs.Joins.{joined, joined_words, joined_by}
use Rattle.joining.specs.Files.{file_of, as_bytes, joined_file, AreBytes, JoinedFiles, JoinsFiles}
use Rattle.joining.specs.Promise.{JoinedAs}
use Rattle.joining.proofs.Laws.{joined_as}
use Rattle.joining.proofs.SmallLaws.{layout-small}

-- a file that was read: its words are a batch's, and they are small where its bytes are bytes
read-words : (bytes : List ℕ) (b : Batch) → file_of bytes ≡ given b → batch_of (words_of bytes) ≡ given b
unfolding file_of
read-words bytes b e = (row-given ((is_input bytes, number_of refusal.BatchLength) ∷ []) (batch_of (words_of bytes)) b e).1

read_small : (bytes : List ℕ) (b : Batch) → AreBytes bytes → file_of bytes ≡ given b → Every Word (layout b)
read_small bytes b small e = rw (sym (layout-laws.reads (words_of bytes) b (read-words bytes b e))) (words_small bytes (place-every Byte 0 bytes small))

-- the bytes of so many words are an input
bytes-input : (w : List ℕ) → length w ≤ most_words → is_input (bytes_of w) ≡ true
unfolding is_input
bytes-input w few =
    let long = length-bytes w in
    let whole : length (bytes_of w) % word_bytes ≡ 0 = omega (arith, long) in
    let within : length (bytes_of w) ≤ most_bytes = omega (arith, long) in
    rw (eq-eqb (length (bytes_of w) % word_bytes) 0 whole, le-leb (length (bytes_of w)) most_bytes within)

module _ (first second : List ℕ) (f : AreBytes first) (s : AreBytes second) where
  read-joined : (a b : Batch) (w : List ℕ) → file_of first ≡ given a → file_of second ≡ given b → JoinedAs a b w → file_of (bytes_of w) ≡ given (joined a b)
  unfolding file_of
  read-joined a b w one other j =
      let small : Every Word w = rw j.laid (layout-small a b j.valid (read_small first a f one) (read_small second b s other)) in
      let few : length w ≤ most_words = rw j.laid (layout-laws.fits (joined a b) j.valid) in
      rw (bytes-input w few, words_back w (every-place Word 0 (omega arith) w small)) j.read

  by-words : (a b : Batch) (bytes : List ℕ) (x : Outcome (List ℕ)) → joined_words a b ≡ x → file_of first ≡ given a → file_of second ≡ given b → as_bytes x ≡ given bytes
      → file_of bytes ≡ given (joined a b)
  by-words a b bytes (given w) is one other e =
      let same : bytes_of w ≡ bytes = cc in
      let va = layout-laws.valid (words_of first) a (read-words first a one) in
      let vb = layout-laws.valid (words_of second) b (read-words second b other) in
      ap file_of (sym same) ∙ read-joined a b w one other (joined_as a b va vb w is)
  by-words a b bytes (refused n) is one other e = never e

  by-files : (bytes : List ℕ) (x y : Outcome Batch) → file_of first ≡ x → file_of second ≡ y → as_bytes (joined_by x y) ≡ given bytes → JoinedFiles first second bytes
  by-files bytes (given a) (given b) one other e =
      record { a = a; b = b; read_first = one; read_second = other; read = by-words a b bytes (joined_words a b) refl one other e }
  by-files bytes (given a) (refused n) one other e = never e
  by-files bytes (refused n) y one other e = never e

pub joins-files : JoinsFiles
unfolding joined_file
joins-files first second bytes f s e = by-files first second f s bytes (file_of first) (file_of second) refl refl e
