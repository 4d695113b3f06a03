pub mod Faults
pub mod Scenes
pub mod Plays
pub mod Casts
pub mod Stages
pub mod Runs
pub mod Printing
