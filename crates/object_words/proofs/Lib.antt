pub mod KeyLemmas
pub mod NameLemmas
pub mod Sums
