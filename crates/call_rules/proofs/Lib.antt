pub mod Tasks
pub mod Plain
pub mod Asking
pub mod Agreeing
pub mod Ordering
pub mod Evaluating
pub mod Whole
