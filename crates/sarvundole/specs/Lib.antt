-- What the contracts of this crate cite beside `meaning`.
pub mod Reads
pub mod Runs
pub mod Kept
pub mod Steps
pub mod Versions
