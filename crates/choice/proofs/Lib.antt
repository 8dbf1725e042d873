pub mod Totals
pub mod Tries
pub mod Refusals
