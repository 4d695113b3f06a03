pub mod Scanning
pub mod Sizes
pub mod Bodies
pub mod BodyLaws
pub mod Ends
