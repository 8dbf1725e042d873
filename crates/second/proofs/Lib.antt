-- The second chip's words and entries, what the two calls answer, and both runs together.
pub mod Words
pub mod Entries
pub mod Translates
pub mod Refusals
pub mod Together
