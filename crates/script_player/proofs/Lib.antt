pub mod Going
pub mod Feeding
pub mod Putting
pub mod Getting
pub mod Leaving
pub mod Asking
pub mod Staying
pub mod Words
