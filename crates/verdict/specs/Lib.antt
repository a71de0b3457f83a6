-- What is promised of a file's line: numbers in decimal, the answer, the line, what the inner calls promise, and what is claimed.
pub mod Decimal
pub mod Verdict
pub mod Line
pub mod Steps
pub mod Claims
