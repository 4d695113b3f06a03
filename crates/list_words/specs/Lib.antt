pub mod KnownListings
pub mod Listings
