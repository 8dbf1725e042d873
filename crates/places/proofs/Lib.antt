pub mod Marking
pub mod Openings
