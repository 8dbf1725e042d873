-- What the contracts of the width type say.
pub mod Widths
