pub mod HoldLemmas
pub mod FirstLemmas
pub mod ShutLemmas
