-- What to believe, in this order: `Floors` (the floor of H at a pH), `TrueHydrogen` (where H itself stands) and `SmallerTable` (which
-- floors are kept, and how the others come from them).
pub mod Floors
pub mod TrueHydrogen
pub mod SmallerTable
