-- What the value's calls promise: the rules as definitions, what each answer says, and what is claimed.
pub mod Value
pub mod Answers
pub mod Claims
