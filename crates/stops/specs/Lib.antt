pub mod Input
pub mod Calls
