-- Laws of text that is put into lent memory, of letters' case, of numbers in decimal, and of a file taken in piece by piece.
pub mod Puts
pub mod Letters
pub mod Decimals
pub mod Sifting
