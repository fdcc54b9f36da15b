-- To be believed, in this order: the charts of two batches as one list, and their tests (`Charts`), two batches joined (`Joins`),
-- what every answer keeps to (`Promise`), and two files joined, by their bytes (`Files`). `Steps` is the code's own form, which a
-- reader of the promises can pass over.
pub mod Charts
pub mod Joins
pub mod Promise
pub mod Files
pub mod Steps
