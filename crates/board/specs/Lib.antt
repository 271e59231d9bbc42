pub mod Cells
pub mod CellTests
pub mod Held
pub mod Lanes
pub mod Arrays
pub mod Slots
pub mod Drawing
pub mod OnBoard
