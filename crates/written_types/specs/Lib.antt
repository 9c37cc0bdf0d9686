pub mod Numbers
pub mod Shapes
pub mod Known
pub mod Forms
pub mod Each
pub mod Params
