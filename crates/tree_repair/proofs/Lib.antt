pub mod Moving
pub mod Joining
pub mod Repairing
