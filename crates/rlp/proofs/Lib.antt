-- What is proved of the definitions, for the crates above to cite.
pub mod Tests
pub mod Answers
pub mod Slices
pub mod BigEndian
pub mod Sizes
pub mod Unique
pub mod Paths
pub mod Claims
