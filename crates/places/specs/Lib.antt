pub mod Ones
pub mod Openings
pub mod Lent
