pub mod Variables
pub mod Scoping
