pub mod Block
pub mod Records
pub use Rattle.generic_array.specs.Rows
