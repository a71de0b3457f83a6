-- What is proved of lists, for the crates above to cite.
pub mod FirstBytes
pub mod Rows
pub mod Asked
pub mod Items
pub mod Encodings
pub mod Claims
