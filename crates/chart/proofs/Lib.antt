-- The laws behind this crate's contracts. Other crates cite `Laws` and `ValueLaws`, and nothing else of it.
mod EveryLaws
pub mod ValueLaws
mod OrderLaws
mod SpreadLaws
mod SumLaws
mod RoomLaws
mod SevenLaws
mod PairLaws
mod WordLaws
mod ValidLaws
pub mod Laws
