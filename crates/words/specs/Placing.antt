-- Words put into a slice from a place on, as far as it goes.
use Rattle.std.specs.Prelude.{List, ℕ, ◌-◌, length, take}
use Rattle.refusal.specs.Lent.{placed}

-- those that there is room for
abbrev pub within : List ℕ → ℕ → List ℕ → List ℕ
within old at words = take (length old - at) words

-- the slice after it
abbrev pub placed_within : List ℕ → ℕ → List ℕ → List ℕ
placed_within old at words = placed old at (within old at words)
