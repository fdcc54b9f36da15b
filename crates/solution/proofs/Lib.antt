-- The laws behind this crate's contracts. The judge cites those that are public.
pub mod SumLaws
mod IonLaws
pub mod HeldLaws
mod SameLaws
mod RangeLaws
mod BoundLaws
mod MadeLaws
pub mod SolutionLaws
