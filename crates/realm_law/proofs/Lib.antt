pub mod Keeping
pub mod MapSums
pub mod Counting
