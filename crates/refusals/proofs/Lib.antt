-- What is known of the numbers.
pub mod Coded
