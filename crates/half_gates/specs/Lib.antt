pub mod Hash
pub mod Gate
