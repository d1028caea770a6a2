pub mod Reading
pub mod Ending
pub mod Serving
pub mod Following
pub mod Running
