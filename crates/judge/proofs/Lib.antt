-- The laws behind this crate's contracts. Other crates cite `Laws` and `RepeatLaws`, and nothing else of it.
mod Crossing
mod Mixing
mod FactorLaws
mod Deciding
mod Judging
mod LimitLaws
mod RoundingLaws
mod CorrectionLaws
mod StrengthLaws
mod RoomLaws
mod NearCorners
mod PartLaws
mod CornerLaws
mod BoundLaws
mod AtHydrogenLaws
mod BalanceLaws
mod ConductivityLaws
mod RatioLaws
mod Applying
mod TruthProofs
mod NarrowerLaws
mod FinerRanges
mod FinerProofs
mod AnswerWays
mod HandedLaws
mod JudgeLaws
mod RereadLaws
mod FinerExamples
mod MostLaws
pub mod Laws
pub mod RepeatLaws
