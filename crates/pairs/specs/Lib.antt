-- The joint sparse form as it is worked out.
pub mod Columns
