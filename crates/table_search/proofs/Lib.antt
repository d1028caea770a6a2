pub mod Points
pub mod Listing
