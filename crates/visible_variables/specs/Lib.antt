pub mod Seen
pub mod Scopes
