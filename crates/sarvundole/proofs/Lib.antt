-- Laws of the calls for C: answers in plain numbers, a reader that is kept, and its calls together.
pub mod Plain
pub mod Kept
pub mod Readers
