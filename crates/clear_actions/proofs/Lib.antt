pub mod Making
pub mod Rising
pub mod Words
pub mod CellByCell
pub mod Calls
pub mod Views
pub mod AtOnce
