-- What the programs are told of standard input.
pub mod Input
