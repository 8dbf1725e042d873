-- Laws that speak of nothing of this project.
pub mod Integers
pub mod Division
pub mod Powers
pub mod Shifts
pub mod Residues
pub mod Choices
pub mod Stores
pub mod Runs
pub mod Parts
pub mod Tables
pub mod Signed
