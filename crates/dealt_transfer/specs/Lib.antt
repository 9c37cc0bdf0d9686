pub mod Halves
pub mod Files
pub mod Faults
pub mod Reading
pub mod Labels
pub mod Dealing
pub mod Transfers
pub mod Hiding
