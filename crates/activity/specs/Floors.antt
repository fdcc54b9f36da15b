-- Document 02 (v): 'the whole-number floor of 10^(9 − e)' where e is n thousandths, by thousandth powers of whole numbers.
use Rattle.std.specs.Prelude.{ℕ, ◌-◌, ◌*◌, ◌^◌, leb}
use Rattle.activity.specs.Search.{greatest_such}
use Rattle.activity.specs.Exponent.{thousand}

-- y² is taken in billionths: the 9 of '10^9 y²'
abbrev pub places : ℕ
places = 9

abbrev pub thousandth_power : ℕ → ℕ
thousandth_power x = x ^ thousand

-- the thousandth power of 10^(9 − n/1000)
unfoldable pub power : ℕ → ℕ
power n = 10 ^ (places * thousand - n)

-- the greatest whole number whose thousandth power is at most that. No number is above its thousandth power, so none above the power is
-- left out. This definition is never computed
unfoldable pub floor_at : ℕ → ℕ
floor_at n = greatest_such (λ x. leb (thousandth_power x) (power n)) (power n)
