pub mod Histories
pub mod Views
pub mod Steps
pub mod Rule
pub mod Plays
pub mod Faults
pub use Rattle.atomic_table.specs.Seated
