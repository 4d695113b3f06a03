pub mod PartLemmas
pub mod PlaceLemmas
pub mod QueryLemmas
pub mod LimitLemmas
pub mod PathLemmas
pub mod NameLemmas
pub mod OnLiterals
pub mod KnownTargets
