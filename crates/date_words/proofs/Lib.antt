pub mod CivilLemmas
pub mod KnownAnswers
pub mod OnLiterals
pub mod SpanLemmas
pub mod TextLemmas
