pub mod Answers
pub mod Crossing
pub mod Steps
pub mod Claims
