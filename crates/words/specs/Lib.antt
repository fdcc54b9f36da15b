-- To be believed, in this order: how bytes hold words (`Words`), words put into a slice (`Placing`), words read from the front, a
-- part at a time (`FromFront`), the words of parts that are given as values (`Sections`), and properties of every part (`Each`).
pub mod Words
pub mod Placing
pub mod FromFront
pub mod Sections
pub mod Each
