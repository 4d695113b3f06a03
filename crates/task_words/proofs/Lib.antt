pub mod Owning
pub mod Refusals
