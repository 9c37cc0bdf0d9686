pub mod Bytes
pub mod Faults
pub mod Pieces
pub mod Spelled
pub mod Opening
pub mod Changes
