pub mod Moved
pub mod Repair
