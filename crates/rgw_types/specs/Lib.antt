pub mod Keys
pub mod Pairs
pub mod Stamps
pub mod Stripes
