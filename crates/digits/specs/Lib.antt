-- What the contract of the scan cites beside `meaning`, and the answer that recode and the checks share.
pub mod Scans
pub mod Tallies
