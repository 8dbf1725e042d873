-- What the contracts of this crate cite.
pub mod Puts
pub mod Sifts
