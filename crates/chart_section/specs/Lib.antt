-- Document 01, 'A batch': its charts, in the order to read it. `Steps` is the code's own form: pass over it.
pub mod ChartSection
pub mod Columns
pub mod Valid
pub mod Steps
