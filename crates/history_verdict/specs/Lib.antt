pub mod Calls
pub mod Progress
pub mod Rows
pub mod Scan
