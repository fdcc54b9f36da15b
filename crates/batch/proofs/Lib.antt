-- The laws behind this crate's contracts. Other crates cite `Laws`, `BackLaws` and `InputLaws`, and nothing
-- else of it.
mod FlagLaws
mod ReadingLaws
mod SampleLaws
mod WholeLaws
mod TakenLaws
pub mod BackLaws
mod TestLaws
pub mod InputLaws
pub mod Laws
