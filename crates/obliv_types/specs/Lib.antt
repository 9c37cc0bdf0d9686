pub mod Functions
pub mod Promise
