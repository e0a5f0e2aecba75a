pub mod Reads
pub mod Tables
pub mod Laws
pub mod Legal
pub mod Verdict
