-- What the contracts of this crate cite beside `meaning`.
pub mod Words
pub mod Promises
