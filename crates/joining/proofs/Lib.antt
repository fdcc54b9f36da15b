-- The laws behind this crate's contracts: the joined charts and their tests, the rows, the theorem; and for the code the walk over the
-- charts, its steps, and the writing.
mod OnlyLaws
mod TestLaws
mod ChartLaws
mod FoundLaws
mod RowLaws
pub mod Laws
mod WalkLaws
mod PutLaws
mod StepLaws
mod FilledLaws
mod FirstLaws
mod SecondLaws
mod WriteLaws
mod PartLaws
mod OwnLaws
mod JoinLaws
mod SmallLaws
mod FileProofs
mod FileLaws
