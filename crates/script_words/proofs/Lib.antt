pub mod Texts
pub mod Few
pub mod Options
pub mod WordsSay
pub mod VerbsSay
pub mod LinesSay
pub mod Pushed
