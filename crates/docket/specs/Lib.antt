-- Document 01, 'The docket', in the order to read it.
pub mod Terms
pub mod Numbers
pub mod Offers
pub mod After
pub mod Plain
pub mod Following
