pub mod Steps
pub mod Added
