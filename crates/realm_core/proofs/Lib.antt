pub mod PoolLemmas
pub mod Histories
pub mod SoloSteps
