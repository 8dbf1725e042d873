-- The joint sparse form of two numbers: unique, there on n + 1 places, and of the fewest nonzero columns.
pub mod Tested
pub mod Form
pub mod Steps
pub mod Least
pub mod Regular
pub mod Unique
pub mod Exists
pub mod Places
pub mod Naturals
pub mod Rows
pub mod Columns
pub mod Joint
