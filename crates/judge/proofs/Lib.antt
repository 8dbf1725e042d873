-- Laws of worth, spacing and refusals that the calls cite.
pub mod Levels
pub mod Spaces
pub mod Refusals
