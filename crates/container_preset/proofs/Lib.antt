pub mod Making
pub mod Rows
pub mod Steps
