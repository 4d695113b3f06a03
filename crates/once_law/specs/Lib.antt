pub mod Maps
pub mod Folds
pub mod Runs
pub mod Missing
pub mod Readings
