-- Document 02 (v) and (vi), what a record leaves open: each reading by its range, hydrogen as its floor or strictly between it and
-- the next whole number, and y² by its bracket.
use Rattle.std.specs.Prelude.{List, ℕ}
use Rattle.activity.specs.Brackets.{unit, lower_end, upper_end}
use Rattle.hydrogen.specs.Floors.{is_whole, floor_at}
use Rattle.record.specs.Record.{ph_of}
use Rattle.solution.specs.Solutions.{least_at, greatest_at, SumRanges, sum_ranges_at}
use Rattle.judge.specs.Choices.{Bracket, Ranges}

-- document 02 (v): '10^9 y² lies between the whole-number floor of 10^(9 − upper e) and the floor of 10^(9 − lower e) plus 1, both
-- included', the lower one by the greatest ionic strength and the upper one by the least
abbrev pub correction_in : SumRanges → Bracket
correction_in x = record { least = lower_end x.most.strength; most = upper_end x.least.strength; unit = unit }

-- of a record: 'I is least with hydrogen at h and greatest at h + 1 (h for both where exact)', and document 02 (vi): 'The least
-- ionic strength takes each such reading at 0, the greatest at its limit, giving one bracket for y²'
unfoldable pub correction_with : List ℕ → ℕ → Bracket
correction_with s floor = correction_in (sum_ranges_at s floor)

abbrev pub ranges_with : List ℕ → ℕ → Ranges
ranges_with s floor = record { least = least_at s; greatest = greatest_at s; correction = correction_with s floor; floor = floor; whole = is_whole (ph_of s) }

abbrev pub ranges_of : List ℕ → Ranges
ranges_of s = ranges_with s (floor_at (ph_of s))
