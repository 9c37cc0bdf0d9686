pub mod Glances
pub mod Writes
