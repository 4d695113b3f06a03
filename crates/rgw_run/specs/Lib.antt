pub mod Scripted
pub mod Runs
pub mod Served
pub mod Preparing
pub mod Exact
