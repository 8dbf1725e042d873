-- Laws of a scan.
pub mod Scans
