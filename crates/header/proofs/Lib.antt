-- What is proved of the header, for the crates above to cite.
pub mod LengthBytes
pub mod Ranges
pub mod Fits
pub mod Refused
pub mod Encodings
pub mod Claims
