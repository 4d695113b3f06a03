pub mod Meanwhile
pub mod Looks
pub mod Listing
pub mod Counted
pub mod Removed
