pub mod Means
pub mod Blocks
pub mod DealtSpent
pub mod OutOfBlock
pub mod Structs
