-- What the contracts of this crate cite beside `meaning` and `layout`.
pub mod Entered
pub mod Kinds
pub mod Orders
pub mod Told
