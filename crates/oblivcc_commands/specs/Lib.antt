pub mod Table
pub mod Asked
pub mod Views
pub mod Asks
