pub mod Cells
pub mod Contents
pub mod LeafLending
pub mod Leaves
pub mod LeavesLending
pub mod Places
pub mod Rows
pub mod Spares
