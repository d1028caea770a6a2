pub mod Members
pub mod Orders
pub mod OnGrid
pub mod Corners
pub mod Around
pub mod Searching
pub mod Reading
pub mod Finding
