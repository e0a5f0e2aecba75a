pub mod Answering
pub mod Entries
pub mod Evaluating
pub mod Faults
pub mod Lost
