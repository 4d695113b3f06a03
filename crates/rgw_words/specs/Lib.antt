pub mod Values
pub mod Options
pub mod NamedUsers
pub mod Words
