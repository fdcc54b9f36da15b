-- The law behind this crate's contracts.
mod CameLaws
