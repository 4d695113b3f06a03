pub mod Layouts
pub mod Ranges
