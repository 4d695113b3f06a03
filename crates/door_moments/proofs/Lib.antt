pub mod Moments
pub mod Asking
