pub mod Numbering
pub mod Counting
pub mod Forms
pub mod Room
pub mod Firsts
pub mod Pushing
pub mod EachItem
pub mod Naming
