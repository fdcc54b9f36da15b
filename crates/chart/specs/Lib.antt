-- Document 01, 'Charts', in the order to read it. `Steps` is the code's own form: pass over it.
pub mod Values
pub mod Setups
pub mod Rules
pub mod Charts
pub mod Steps
