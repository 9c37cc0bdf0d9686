pub mod WordForm
pub mod LineForm
pub mod Readings
pub mod LongInputs
