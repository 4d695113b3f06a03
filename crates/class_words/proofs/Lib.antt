pub mod WorksLemmas
pub mod LogLemmas
pub mod AboveLog
pub mod FreshLemmas
pub mod PageLemmas
pub mod OptionLemmas
