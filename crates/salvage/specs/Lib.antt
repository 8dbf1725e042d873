pub mod Pours
