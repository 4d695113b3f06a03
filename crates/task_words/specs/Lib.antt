pub mod Spans
pub mod Answers
pub mod Rows
pub mod Cuts
pub mod Outcomes
pub mod KnownAnswers
