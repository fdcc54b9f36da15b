-- What a call returns to a program in C, and the order of what may refuse it.
use Rattle.std.specs.Prelude.{List, ℕ, length}
use Rattle.refusal.specs.Outcome.{Outcome}
use Rattle.refusal.specs.Outcome.Outcome.{given, refused}

-- 0 where the call did what was asked, else the number of the refusal: 'a refusal returns its number'
abbrev pub code_of : {A : Type 0} → Outcome A → ℕ
code_of (given x) = 0
code_of (refused n) = n

-- what comes after a value was given; a refusal stands
abbrev pub and_then : {A B : Type 0} → Outcome A → (A → Outcome B) → Outcome B
and_then (given x) next = next x
and_then (refused n) next = refused n

-- a length that is told beside the code: that of the answer, and after a refusal what stood there
abbrev pub size_after : Outcome (List ℕ) → ℕ → ℕ
size_after (given answer) old = length answer
size_after (refused n) old = old

-- the same, by how long an answer is
abbrev pub told_size : Outcome ℕ → ℕ → ℕ
told_size (given n) old = n
told_size (refused n) old = old
