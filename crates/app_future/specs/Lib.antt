pub mod Futures
pub mod Entries
