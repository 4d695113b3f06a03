pub mod Repaired
pub mod Settled
