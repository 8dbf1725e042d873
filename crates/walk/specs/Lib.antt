-- What the contracts of the runs cite beside `meaning`.
pub mod Steps
pub mod Residues
pub mod Powers
