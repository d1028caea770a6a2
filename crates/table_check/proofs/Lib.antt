pub mod Matching
pub mod Deciding
