-- What is proved of writing, for the crates above to cite.
pub mod Puts
pub mod Numbers
pub mod Writes
pub mod Claims
