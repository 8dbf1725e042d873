-- Laws of frames: digits and entries as bytes, the bytes of a frame, lines, the verdict on a line of a damaged file, and a file of lines.
pub mod Entries
pub mod Bytes
pub mod Frames
pub mod Verdicts
pub mod Salvage
