pub mod Faults
pub mod Scan
pub mod Reading
pub mod Chunks
pub mod Intake
pub mod Grammar
