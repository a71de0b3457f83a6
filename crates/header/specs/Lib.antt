-- What the header's calls promise: the rules as definitions, and what is claimed.
pub mod Header
pub mod Claims
