-- What the contracts of the calls on frames cite beside `meaning`.
pub mod Wholes
