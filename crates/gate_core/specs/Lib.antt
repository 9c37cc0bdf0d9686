pub mod Circuit
pub mod Relations
pub mod Laws
pub mod GateList
pub mod Backends
pub mod Wiring
