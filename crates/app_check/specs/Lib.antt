pub mod Seeing
pub mod Checking
pub mod Bodies
