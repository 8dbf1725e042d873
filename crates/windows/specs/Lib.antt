-- What the contracts of windows say.
pub mod Parts
pub mod Openings
