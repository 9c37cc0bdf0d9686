pub mod Refusing
pub mod Steps
pub mod Judged
