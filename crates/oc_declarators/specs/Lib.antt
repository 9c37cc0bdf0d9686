pub mod Continuations
