pub mod Settling
pub mod Entries
