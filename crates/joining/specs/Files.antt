-- Document 02 (iii), 'Runs of one day joined': two files joined, each the bytes of a batch's words.
use Rattle.std.specs.Prelude.{◌≡◌, List, ℕ, ◌<◌, get_or}
use Rattle.refusal.specs.Outcome.{Outcome, demand}
use Rattle.refusal.specs.Outcome.Outcome.{given, refused}
use Rattle.refusal.specs.Numbers.{number_of}
use Rattle.refusal.specs.declared.Refusal.TheVariants as refusal
use Rattle.words.specs.Words.{words_of, bytes_of}
use Rattle.batch.specs.Batches.{Batch, batch_of}
use Rattle.batch.specs.Input.{is_input}
use Rattle.joining.specs.Joins.{joined, joined_by}

-- a file is read as the listing's input is: bytes that are no words, or too many, 'give 8 before any other test'
unfoldable pub file_of : List ℕ → Outcome Batch
file_of bytes = demand (is_input bytes) (number_of refusal.BatchLength) (batch_of (words_of bytes))

abbrev pub as_bytes : Outcome (List ℕ) → Outcome (List ℕ)
as_bytes (given words) = given (bytes_of words)
as_bytes (refused n) = refused n

-- 'the joined batch in the file's layout'
unfoldable pub joined_file : List ℕ → List ℕ → Outcome (List ℕ)
joined_file first second = as_bytes (joined_by (file_of first) (file_of second))

-- what was answered to two files: 'the joined batch in the file's layout, and it is valid', read from its bytes as the two were
pub record JoinedFiles (first second bytes : List ℕ) : Type 0 where
  pub a : Batch
  pub b : Batch
  pub read_first : file_of first ≡ given a
  pub read_second : file_of second ≡ given b
  pub read : file_of bytes ≡ given (joined a b)

abbrev pub AreBytes : List ℕ → Type 0
AreBytes l = (i : ℕ) → get_or l i 0 < 256

abbrev pub JoinsFiles : Type 0
JoinsFiles = (first second bytes : List ℕ) → AreBytes first → AreBytes second → joined_file first second ≡ given bytes → JoinedFiles first second bytes
