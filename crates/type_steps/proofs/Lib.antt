pub mod Views
pub mod Bare
pub mod Steps
