pub mod Layouts
pub mod Heads
pub mod Tails
