-- To be believed, in this order: numbers in base ten (`Decimal`), and the text that is printed (`Listing`).
pub mod Decimal
pub mod Listing
