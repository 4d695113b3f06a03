pub mod FieldLemmas
pub mod FormLemmas
pub mod FramingLemmas
pub mod PlainLemmas
pub mod ReadingLemmas
pub mod StreamLaws
