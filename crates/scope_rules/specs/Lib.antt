pub mod Frozen
pub mod InScope
pub mod FirstFault
