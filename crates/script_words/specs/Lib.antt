pub mod Names
pub mod Lines
pub mod Reading
pub mod Bodies
pub mod Replies
pub mod Laws
