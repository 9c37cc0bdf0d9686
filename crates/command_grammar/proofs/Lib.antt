pub mod Slots
pub mod Options
pub mod Fronts
pub mod Scans
pub mod Once
pub mod Pairs
pub mod Numbers
pub mod Answering
