pub mod Views
pub mod Requests
pub mod Going
pub mod Plays
pub mod Meanings
