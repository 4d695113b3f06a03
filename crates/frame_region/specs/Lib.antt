pub mod Region
pub mod Cells
pub mod Links
pub mod Held
