pub mod Strings
pub mod Stretches
pub mod Taking
