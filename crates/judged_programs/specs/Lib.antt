pub mod StatementTyping
pub mod ProgramTyping
pub mod ProgramFault
pub mod Laws
