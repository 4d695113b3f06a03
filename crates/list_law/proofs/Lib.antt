pub mod Sorted
pub mod Kept
pub mod Turned
pub mod Places
pub mod Seeing
pub mod Joining
pub mod Stamped
