pub mod Works
pub mod LogRows
pub mod Shards
pub mod Pages
