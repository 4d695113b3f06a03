pub mod CodecLemmas
pub mod RangeLemmas
pub mod CoverLemmas
