pub mod Relating
pub mod Playing
pub mod Pairs
pub mod Numbered
pub mod Truths
pub mod Putting
pub mod Reading
pub mod Affording
