-- What the C interface says of the definitions below it, in the order to read it.
pub mod Codes
pub mod Analyses
pub mod DocketWords
pub mod LentDockets
