pub mod Order
pub mod InTurn
pub mod Beside
pub mod Judging
