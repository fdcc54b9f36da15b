-- What to believe, in this order: `Agreement` (when two records agree) and `Compared` (the same of records held by value).
pub mod Agreement
pub mod Compared
