pub mod Frames
pub mod Forms
pub mod Setup
