pub mod Gates
pub mod Shapes
pub mod Laws
