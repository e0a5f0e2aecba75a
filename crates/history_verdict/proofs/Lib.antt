pub mod Over
pub mod Breaks
pub mod Children
