pub mod Adding
pub mod Exprs
pub mod Stmts
pub mod Calls
