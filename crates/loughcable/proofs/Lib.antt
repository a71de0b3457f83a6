-- What is proved of the linked calls.
pub mod Truths
pub mod Numbers
pub mod Crossings
pub mod Seen
pub mod Claims
