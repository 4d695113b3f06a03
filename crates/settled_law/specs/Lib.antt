pub mod Resting
pub mod Removing
