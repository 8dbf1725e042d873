-- What the contracts of a stream say.
pub mod Streams
