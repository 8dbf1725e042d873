pub mod OddPowers
pub mod Refusals
pub mod Together
