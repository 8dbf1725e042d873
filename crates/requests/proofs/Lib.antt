-- Laws of frames and of the answers to them.
pub mod Requests
pub mod Writing
pub mod Answering
