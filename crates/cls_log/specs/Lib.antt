pub mod LogObjects
pub mod Examples
