pub mod Ethernet
pub mod HeaderError
pub mod KeyTable
pub mod Matrix
pub mod Udp
pub use Rattle.generic_array.specs.Length
