-- Laws of a reader's start, of one call, of the string that a state has still to give, and of any number of calls.
pub mod Starts
pub mod Takes
pub mod Stands
pub mod Bounds
pub mod Calls
