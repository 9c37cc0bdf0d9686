pub mod Forms
pub mod Grammar
pub mod Sound
pub mod Scanning
pub mod Views
pub mod Values
pub mod Reading
