-- What to believe, in this order: `Strength` (how a strength is counted, and the two roots), `Exponent` (e and its thousandths), `Floors` (the
-- floor of a power of ten), `Brackets` (the two ends) and `Truth` (what is true of them). `Search` says what 'the greatest' and 'the least' are.
-- `Steps` is the code's own form: pass over it.
pub mod Search
pub mod Strength
pub mod Exponent
pub mod Floors
pub mod Brackets
pub mod Truth
pub mod Steps
