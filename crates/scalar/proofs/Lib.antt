-- Laws of a scalar's orders, bytes, bits and windows, and of two numbers compared.
pub mod Orders
pub mod Bytes
pub mod Fields
pub mod Zeros
pub mod Compared
