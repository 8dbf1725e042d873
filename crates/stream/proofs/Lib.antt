-- Laws of streams of lines.
pub mod Streams
pub mod Answering
