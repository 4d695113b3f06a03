pub mod Cursors
pub mod Listed
pub mod Merges
pub mod Progresses
pub mod Repairs
pub mod Sightings
pub mod Stages
pub mod Tasks
