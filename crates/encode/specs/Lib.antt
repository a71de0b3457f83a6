-- What the writing calls promise: bytes put over others, what is encoded and where, what an answer says, and what is claimed.
pub mod Put
pub mod Encode
pub mod Answers
pub mod Claims
