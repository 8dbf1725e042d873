-- Laws of characters, pairs and bytes.
pub mod Characters
pub mod Reading
pub mod Writing
pub mod Capitals
