-- Document 02 (iv): which floors the table keeps, and how every other comes from them. What a floor is stays document 01's to say.
use Rattle.std.specs.Prelude.{◌≡◌, ℕ, ◌+◌, ◌/◌, ◌≤◌}
use Rattle.hydrogen.specs.Floors.{greatest_ph, floor_at}

-- a 'hundred further' in p is a unit of pH
abbrev pub per_ph : ℕ
per_ph = 100

-- 'it keeps only the floors for p from 200 to 299': those of one unit
abbrev pub table_length : ℕ
table_length = per_ph

-- 'each hundred further divides by ten once more, rounded down'
abbrev pub DividesByTen : Type 0
DividesByTen = (p : ℕ) → p + per_ph ≤ greatest_ph → floor_at (p + per_ph) ≡ floor_at p / 10
