pub mod Static
pub mod Visible
