pub mod Events
pub mod Passes
pub mod Opening
pub mod Taking
pub mod Giving
pub mod Splitting
