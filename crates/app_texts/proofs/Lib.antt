pub mod Clean
pub mod Expressions
pub mod Blocks
pub mod Bytes
pub mod Differing
pub mod Spellable
