pub mod Framings
pub mod Heads
pub mod HeadSpans
pub mod Forms
pub mod Streams
pub mod Replies
