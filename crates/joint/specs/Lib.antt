-- What the contracts of this crate cite beside `meaning` and `pairs`.
pub mod Places
pub mod Answers
