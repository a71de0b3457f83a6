-- What is proved of values, for the crates above to cite.
pub mod Places
pub mod Scalars
pub mod Exact
pub mod Encodings
pub mod Claims
