-- Laws of pieces and the lines in them.
pub mod Pieces
pub mod Keeping
