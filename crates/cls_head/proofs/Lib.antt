pub mod TextLemmas
pub mod HeadLemmas
pub mod Uniqueness
