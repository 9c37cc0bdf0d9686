pub mod OwnCalls
pub mod Formats
pub mod Given
pub mod Printed
