pub mod Stands
pub mod Bounds
pub mod Calls
