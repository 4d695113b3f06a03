pub mod Shown
pub mod Replies
pub mod Pieces
pub mod Readings
pub mod Stages
pub mod Gets
pub mod Tasks
