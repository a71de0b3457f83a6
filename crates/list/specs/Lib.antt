-- What the list's calls promise: the rules as definitions, and what is claimed.
pub mod Kinds
pub mod Walk
pub mod Claims
