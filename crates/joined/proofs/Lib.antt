-- The four entries, and what the call answers.
pub mod Entries
pub mod Refusals
