pub mod Numbers
pub mod Turns
pub mod Listing
pub mod Apart
