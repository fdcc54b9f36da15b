-- The code's own form, which a reader of the promises can pass over: how far roots and exponents go.
use Rattle.std.specs.Prelude.{ℕ}

-- no root of a strength up to the strongest is above this one
abbrev pub greatest_root : ℕ
greatest_root = 282843

-- the entries of the table: its exponents are below this
abbrev pub table_length : ℕ
table_length = 200
