pub mod Numbers
pub mod Layouts
pub mod Headers
pub mod LogRows
