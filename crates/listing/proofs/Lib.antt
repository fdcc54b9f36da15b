-- The laws that the functions' proofs cite.
mod DecimalLaws
mod PartLaws
mod LineLaws
mod LengthLaws
mod AnswerLaws
mod TextLaws
