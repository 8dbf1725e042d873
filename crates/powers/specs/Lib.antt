-- What the contracts of this crate cite beside `meaning`.
pub mod Outcomes
pub mod Walks
