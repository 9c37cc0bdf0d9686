pub mod Walks
pub mod Nodes
pub mod Loops
pub mod Weight
pub mod Params
pub mod Whole
