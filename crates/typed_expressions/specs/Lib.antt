pub mod Sites
pub mod Weight
pub mod CalledNames
pub mod Arguments
pub mod Ways
