pub mod Acts
pub mod Operators
pub mod Expressions
pub mod Trees
pub mod Blocks
pub mod Values
pub mod Told
mod Inner
mod Clean
pub mod Declared
pub mod Sizes
pub mod Limits
pub mod Performed
pub mod OwnExceptions
pub mod OwnOperators
pub mod OwnExpressions
pub mod OwnBlocks
