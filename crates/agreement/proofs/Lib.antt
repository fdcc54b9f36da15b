-- The laws behind this crate's contracts. The crates above cite `Laws`, and nothing else of it.
mod Tenths
pub mod Laws
