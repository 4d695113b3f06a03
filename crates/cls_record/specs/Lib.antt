pub mod BucketRows
pub mod Changes
pub mod Pages
pub mod RootObjects
