-- Document 01, 'The four checks', and document 02 (v) and (vi): what a record leaves open, and 'every choice of these values, of
-- hydrogen and of y²'. At a pH that is no multiple of 100 hydrogen is every fraction strictly between h and h + 1; elsewhere it is
-- h. Each amount lies between a least and a greatest one, both included: (vi) has a below reading stand for 'every fraction from 0
-- to its limit's amount'. A sum may be corrected, that is multiplied by every fraction between two, both included: y² of (v). Each
-- is chosen apart from the others.
use Rattle.std.specs.Prelude.{◌≡◌, Bool, true, false, ℕ, ◌+◌, ◌*◌, ◌≤◌, ◌<◌}

-- from least / unit to most / unit, both included
pub record Bracket : Type 0 where
  pub least : ℕ
  pub most : ℕ
  pub unit : ℕ

-- exactly 1
abbrev pub uncorrected : Bracket
uncorrected = record { least = 1; most = 1; unit = 1 }

-- n / d is in a bracket
pub record InBracket (b : Bracket) (n d : ℕ) : Type 0 where
  pub divides : 0 < d
  pub over : b.least * d ≤ b.unit * n
  pub under : b.unit * n ≤ b.most * d

pub record Ranges : Type 0 where
  -- the least and the greatest amount of each reading, in tenths of a µg/L
  pub least : ℕ → ℕ
  pub greatest : ℕ → ℕ
  -- the correction of a sum
  pub correction : Bracket
  -- the floor of hydrogen, in u, and whether hydrogen is its floor
  pub floor : ℕ
  pub whole : Bool

-- fractions over one divisor: the amount of each reading, and hydrogen; and the correction, over a divisor of its own
pub record Choice : Type 0 where
  pub divisor : ℕ
  pub amount : ℕ → ℕ
  pub hydrogen : ℕ
  pub correction : ℕ
  pub correction_divisor : ℕ

-- hydrogen n / d is h, or strictly between h and h + 1
abbrev pub Hydrogen : Bool → ℕ → ℕ → ℕ → Type 0
Hydrogen true h n d = n ≡ h * d
Hydrogen false h n d = (h * d < n) × (n < (h + 1) * d)

-- amounts and correction within their ranges, with whatever hydrogen
pub record Values (r : Ranges) (c : Choice) : Type 0 where
  pub divides : 0 < c.divisor
  pub over : (i : ℕ) → r.least i * c.divisor ≤ c.amount i
  pub under : (i : ℕ) → c.amount i ≤ r.greatest i * c.divisor
  pub correction : InBracket r.correction c.correction c.correction_divisor

pub record Among (r : Ranges) (c : Choice) : Type 0 where
  pub values : Values r c
  pub hydrogen : Hydrogen r.whole r.floor c.hydrogen c.divisor
