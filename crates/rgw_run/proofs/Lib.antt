pub mod Starting
pub mod Ending
pub mod Container
pub mod Told
pub mod Exactly
pub mod InTime
pub mod Asking
pub mod Serving
