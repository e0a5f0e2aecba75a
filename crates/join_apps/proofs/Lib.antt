pub mod Futures
pub mod Outputs
pub mod Running
