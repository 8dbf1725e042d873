-- The number of each reason.
pub mod Coded
