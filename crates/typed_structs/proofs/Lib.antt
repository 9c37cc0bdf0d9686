pub mod Naming
pub mod Laying
pub mod Judging
pub mod Above
pub mod OneStruct
pub mod AllStructs
