-- The laws behind this crate's contracts.
mod CallLaws
mod WordLaws
mod OfferLaws
