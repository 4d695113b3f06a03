pub mod Fates
pub mod Staying
pub mod Reading
pub mod EveryInput
