pub mod Ordered
pub mod InTurn
pub mod Agreed
pub mod Numbered
pub mod Judged
