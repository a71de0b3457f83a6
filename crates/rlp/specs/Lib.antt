-- The definitions that the library's promises cite: refusals and limits, numbers as bytes, trees and their encoding; and what is claimed of them.
pub mod Refusals
pub mod Limits
pub mod Bytes
pub mod Tree
pub mod Paths
pub mod Promises
pub mod Claims
