pub mod Digits
pub mod Fronts
pub mod Gaps
pub mod Printed
pub mod Reading
pub mod RunBytes
pub mod Symbols
pub mod Turns
