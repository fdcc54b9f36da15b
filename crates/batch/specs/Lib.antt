-- To be believed, in this order: what the words of a batch say (`Batches`), what is answered to them (`Rows`), which bytes hold the
-- words (`Input`), and that reading and writing undo each other (`Layout`). `Steps` is the code's own form, which a reader of the
-- promises can pass over.
pub mod Batches
pub mod Rows
pub mod Input
pub mod Layout
pub mod Steps
