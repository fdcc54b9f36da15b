-- The laws behind this crate's contracts. Other crates cite `Laws`, and nothing else of it.
mod Searches
mod NewtonLaws
mod Powers
mod RootLaws
mod Grows
mod ExponentLaws
mod FloorLaws
mod FloorTable
mod Ends
mod Sound
pub mod Laws
mod Examples
