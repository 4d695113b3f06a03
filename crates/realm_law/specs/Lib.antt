pub mod Invariant
pub mod Totals
