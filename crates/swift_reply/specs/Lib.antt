pub mod Moments
pub mod Listings
pub mod Fields
pub mod Replies
pub mod Known
