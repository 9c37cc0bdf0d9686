pub mod MemoryLines
pub mod TcpLines
pub mod Dialed
