pub mod Civil
pub mod HttpDate
