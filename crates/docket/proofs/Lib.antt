-- The laws behind this crate's contracts, and the proof of the list theorem.
mod TakenLaws
mod OfferLaws
mod PlainLaws
mod ListProof
