-- The laws behind this crate's contracts. Other crates cite `Laws` (what the answer says), `StandLaws` (what was read), `BackLaws`
-- (what is read back) and `NewLaws` (elements of which none comes twice), and nothing else of it.
mod ElementLaws
mod ChartLaws
mod ColumnLaws
pub mod StandLaws
pub mod BackLaws
pub mod NewLaws
pub mod Laws
