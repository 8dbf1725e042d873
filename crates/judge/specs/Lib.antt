-- What the contracts of this crate cite beside `meaning`.
pub mod Levels
pub mod Spaces
