pub mod Products
pub mod Reading
pub mod Ranking
pub mod Stacks
pub mod Bisection
pub mod Listing
pub mod Entries
