-- Document 02 (v): 'write e for s/(1+s) − 0.3 s²', at a fraction s = a / b, and the thousandths below and above it.
use Rattle.std.specs.Prelude.{ℕ, ◌+◌, ◌-◌, ◌*◌, ◌^◌, ◌≤◌, leb}
use Rattle.activity.specs.Search.{greatest_such, least_such}

-- s/(1+s) is a / (a + b), and 0.3 s² is 3 a² / 10 b². What both are over their common divisor, 10 b² (a + b): the 0.3 is the 3 of `loss` over
-- the 10 of `bottom`
unfoldable pub bottom : ℕ → ℕ → ℕ
bottom a b = 10 * (b * b * (a + b))

-- s/(1+s)
abbrev pub gain : ℕ → ℕ → ℕ
gain a b = 10 * (a * (b * b))

-- 0.3 s²
abbrev pub loss : ℕ → ℕ → ℕ
loss a b = 3 * (a * a * (a + b))

-- e is top / bottom. The loss is not above the gain wherever s is at most a half (`Truth.Growing`)
unfoldable pub top : ℕ → ℕ → ℕ
top a b = gain a b - loss a b

-- s is 'a multiple of 10^−6': k × 10^−6 is the fraction k / 10^6
abbrev pub million : ℕ
million = 10 ^ 6

-- e is taken in thousandths
abbrev pub thousand : ℕ
thousand = 1000

-- n thousandths are not above e at k × 10^−6, or not below it
abbrev pub NotAbove : (k n : ℕ) → Type 0
NotAbove k n = n * bottom k million ≤ thousand * top k million

abbrev pub NotBelow : (k n : ℕ) → Type 0
NotBelow k n = thousand * top k million ≤ n * bottom k million

-- 'the lower e is the greatest thousandth not above its value at the lower s', in thousandths. e is below 1
unfoldable pub lower_exponent : ℕ → ℕ
lower_exponent k = greatest_such (λ n. leb (n * bottom k million) (thousand * top k million)) thousand

-- 'the upper e the least thousandth not below its value at the upper s'
unfoldable pub upper_exponent : ℕ → ℕ
upper_exponent k = least_such (λ n. leb (thousand * top k million) (n * bottom k million)) thousand
