-- Document 02 (v): the ionic strength I, and the multiples of 10^−6 that stand for its root s.
-- 'I the ionic strength in mol/L (half the sum, over all ten rows, of equivalents per litre times the ion's charge)'. With u = 10^−15
-- equivalents per litre, the sum of the charges in u times the ions' charges is I in halves of 10^−15 mol/L: a strength is counted in these.
use Rattle.std.specs.Prelude.{ℕ, ◌*◌, ◌^◌, leb}
use Rattle.activity.specs.Search.{greatest_such, least_such}

-- the greatest strength that a bracket is given for, 0.08 mol/L: above every record's
abbrev pub strongest : ℕ
strongest = 16 * 10 ^ 13

-- the square of k × 10^−6 as a strength: k² × 10^−12 mol/L
abbrev pub square : ℕ → ℕ
square k = 2000 * (k * k)

-- 'the lower s is the greatest multiple of 10^−6 whose square is at most the least I', in multiples. No number is above its square, so none
-- above the strength is left out. This definition and the next are never computed
unfoldable pub lower_root : ℕ → ℕ
lower_root strength = greatest_such (λ k. leb (square k) strength) strength

-- 'the upper s is the least multiple whose square is at least the greatest I'. The strength's own square is
unfoldable pub upper_root : ℕ → ℕ
upper_root strength = least_such (λ k. leb strength (square k)) strength
