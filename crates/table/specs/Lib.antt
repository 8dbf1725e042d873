-- What the contracts of the table say.
pub mod Tables
