-- What is proved of a file's bytes, its answer and its line.
pub mod Decimals
pub mod Lines
pub mod Reading
pub mod Claims
