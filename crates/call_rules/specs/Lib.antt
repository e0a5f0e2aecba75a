pub mod Calls
pub mod Groups
pub mod Laws
pub mod Orders
pub mod Told
