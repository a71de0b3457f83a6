-- What is proved of the stream.
pub mod OpenLists
pub mod Cascade
pub mod Stores
pub mod Sentence
pub mod Saying
pub mod Answered
pub mod Calls
pub mod Raws
pub mod Found
pub mod Kept
pub mod Looks
pub mod Showing
pub mod Looking
pub mod Claims
