-- The whole answer of the record's own tests, by whether its fields were held.
use mathlib.Core.Path.{◌≡◌, sym}
use mathlib.Core.List.{List}
use Prim.Native.Nat.{ℕ}
use Rattle.refusal.specs.Outcome.Outcome.{given, refused}
use Rattle.hydrogen.specs.Floors.{floor_at}
use Rattle.record.specs.Record.{ph_of}
use Rattle.record.specs.Tested.{TestedTerms, fields_of, refused_terms, held_of, tested_of}
use Rattle.record.proofs.AcceptedLaws.{accepted-given, valid-accepted, refused-for-all}

module _ (s : List ℕ) where
  abbrev held : TestedTerms
  held = record { tested = given (floor_at (ph_of s)); fields = fields_of s }

  pub held-given : (t : TestedTerms) → held_of s ≡ given t → t ≡ tested_of s
  unfolding held_of tested_of
  held-given t e =
      let w = accepted-given s (given held) t e in
      let is : held ≡ t = cc w.1 in
      rw (valid-accepted s (given (floor_at (ph_of s))) w.0) (sym is)

  pub held-refused : (n : ℕ) → held_of s ≡ refused n → refused_terms n ≡ tested_of s
  unfolding held_of tested_of
  held-refused n e = rw (refused-for-all s held n e (given (floor_at (ph_of s))))
