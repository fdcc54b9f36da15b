-- Document 01, 'A record' and 'The four checks': the kinds and the classes of measured conductivity that the checks go by, and what
-- a difference is taken in percent of.
use Rattle.std.specs.Prelude.{ℕ}

-- 'kind: 1 wet-only, 2 bulk open field, 3 throughfall, 4 stemflow, 5 runoff, 6 soil water'
abbrev pub wet_only : ℕ
wet_only = 1

abbrev pub bulk : ℕ
bulk = 2

abbrev pub stemflow : ℕ
stemflow = 4

abbrev pub runoff : ℕ
runoff = 5

-- 'up to 10.0', 'up to 20.0': a low and a medium conductivity, in tenths of µS/cm
abbrev pub low_conductivity : ℕ
low_conductivity = 100

abbrev pub medium_conductivity : ℕ
medium_conductivity = 200

-- a difference in percent of a value, '100 times the difference'; and of the mean of two, '200 times the difference' against their
-- sum
abbrev pub percent : ℕ
percent = 100

abbrev pub percent_of_mean : ℕ
percent_of_mean = 200
