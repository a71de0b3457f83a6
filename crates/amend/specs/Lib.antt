-- The definitions that the amender's promise and its inner calls cite, and what is claimed of it.
pub mod Amend
pub mod Answers
pub mod Steps
pub mod Tables
pub mod Claims
