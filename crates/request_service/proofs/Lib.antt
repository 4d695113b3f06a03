pub mod Ends
pub mod Texts
pub mod Writing
pub mod Stopping
pub mod Early
pub mod Commands
