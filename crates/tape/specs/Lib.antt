-- What the contracts of this crate cite beside `meaning`.
pub mod Steps
pub mod Places
pub mod Answers
