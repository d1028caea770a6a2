pub mod Writing
pub mod Length
pub mod ReadBack
pub mod Moved
