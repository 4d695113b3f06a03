pub mod Asking
pub mod Counts
pub mod Stages
pub mod Tasks
