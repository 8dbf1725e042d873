pub mod Words
pub mod Multiples
pub mod Moves
pub mod Runs
pub mod Refusals
pub mod Together
