pub mod Building
pub mod Writes
pub mod Places
pub mod Pointers
pub mod Calls
pub mod Jumps
pub mod Always
