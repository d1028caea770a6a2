pub mod Tree
pub mod Rooted
pub mod Change
