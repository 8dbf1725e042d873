-- Laws of the window table.
pub mod Entries
