-- The bytes that hold a batch: the most of them, and those that pass the test are no more.
use mathlib.Core.Bool.{true}
use mathlib.Core.Path.{◌≡◌, refl}
use mathlib.Core.List.{List}
use Prim.Native.Nat.{ℕ, ◌%◌, ◌≤◌}
use borrow.Author.Tests.{leb-true}
use lib.Dec.{eqb, leb}
use lib.ListN.{length}
use Rattle.refusal.proofs.Testing.{both}
use Rattle.words.specs.Words.{word_bytes}
use Rattle.batch.specs.Input.{most_bytes, ByteLimit, is_input}

-- computed: a batch that has the most of all is as long as the document says
pub byte-limit : ByteLimit
byte-limit = refl

pub input-within : (b : List ℕ) → is_input b ≡ true → length b ≤ most_bytes
unfolding is_input
input-within b h = leb-true (length b) most_bytes (both (eqb (length b % word_bytes) 0) (leb (length b) most_bytes) h).1
