pub mod Parsing
pub mod Calls
pub mod OpenEnds
pub mod Views
pub mod Lists
