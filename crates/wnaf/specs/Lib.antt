pub mod Stretches
pub mod Coming
