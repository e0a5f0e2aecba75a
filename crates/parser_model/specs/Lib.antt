pub mod Reading
pub mod Stages
pub mod Scripts
pub mod Verdicts
pub mod Parsing
