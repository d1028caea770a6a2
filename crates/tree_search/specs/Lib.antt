pub mod Sites
pub mod Searching
