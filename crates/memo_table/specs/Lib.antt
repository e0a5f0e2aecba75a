pub mod Decisions
pub mod Keys
pub mod Table
