-- The laws behind this crate's contracts. Other crates cite `Laws`, and nothing else of it.
mod Powers
mod Root
mod HundredLaws
mod FloorTable
mod Exact
mod Rule
mod Placing
mod Order
pub mod Laws
