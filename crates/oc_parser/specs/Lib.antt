pub mod Continuations
pub mod Places
pub mod Load
pub mod Refusals
pub mod Trees
pub mod Programs
pub mod Stacks
pub mod Shallow
