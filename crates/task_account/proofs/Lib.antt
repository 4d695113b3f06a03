pub mod Orders
pub mod Reading
pub mod Rowing
pub mod Steps
pub mod Turning
pub mod Waiting
pub mod Walking
