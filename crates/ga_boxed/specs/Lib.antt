pub mod BlockLends
pub mod CellsLend
pub mod CellsOwn
pub mod Live
pub mod Placed
