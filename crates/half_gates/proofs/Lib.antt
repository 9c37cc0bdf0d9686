pub mod Digests
pub mod HalfGates
