pub mod Bodies
pub mod Connections
pub mod Serving
pub mod Replying
pub mod Faults
pub mod Waiting
