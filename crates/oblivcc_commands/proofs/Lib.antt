pub mod OfKind
pub mod Meaning
