pub mod Pieces
pub mod Forms
pub mod Ways
pub mod Statements
pub mod Codes
