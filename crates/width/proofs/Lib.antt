-- Laws of the width type that its callers cite, and of the test of a digit in its own code.
pub mod Widths
pub mod Sets
