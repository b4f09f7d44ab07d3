pub mod Arguments
pub mod Ends
pub mod Listed
pub mod Status
pub mod Text
