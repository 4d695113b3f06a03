pub mod Commands
pub mod Keys
pub mod Rows
pub mod Texts
