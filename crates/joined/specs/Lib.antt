-- What the contract of the call cites beside `meaning`.
pub mod Promises
