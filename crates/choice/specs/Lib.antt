-- What the contracts of this crate cite beside `meaning`.
pub mod Answers
pub mod Best
