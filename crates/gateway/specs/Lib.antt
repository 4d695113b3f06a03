pub mod Moments
pub mod Texts
pub mod Calls
pub mod Serving
pub mod Requests
pub mod Turns
