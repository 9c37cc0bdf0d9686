pub mod Building
pub mod Views
