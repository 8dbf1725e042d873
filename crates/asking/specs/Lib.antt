-- What the contracts of the calls' answers say.
pub mod Room
pub mod Printing
