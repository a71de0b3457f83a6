-- What is proved of the amender; each function's own proof is in the folder of its name.
pub mod Splits
pub mod Kids
pub mod Plans
pub mod Writing
pub mod Turns
pub mod Amending
pub mod NewTrees
pub mod Buffers
pub mod Walks
pub mod Claims
