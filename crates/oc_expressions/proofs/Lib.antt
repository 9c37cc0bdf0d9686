pub mod Levels
pub mod Choosing
pub mod Operators
pub mod Operands
pub mod Turns
