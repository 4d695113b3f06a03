pub mod Scans
pub mod Chunks
pub mod Steps
