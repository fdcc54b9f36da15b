-- The laws behind this crate's contracts, and those on words read from the front. Other crates cite the public ones.
pub mod PackedLaws
mod PlacingLaws
pub mod SliceLaws
pub mod ManyLaws
pub mod EachLaws
pub mod SectionLaws
pub mod TakenLaws
pub mod BackLaws
pub mod Laws
