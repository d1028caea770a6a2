pub mod Take
pub mod Removal
