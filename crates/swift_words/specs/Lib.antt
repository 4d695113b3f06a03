pub mod Faults
pub mod Parts
pub mod Queries
pub mod SentValues
pub mod Targets
pub mod Places
