pub mod Nodes
pub mod Functions
pub mod Rows
pub mod Loops
