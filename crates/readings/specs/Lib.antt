pub mod Reading
pub mod Location
pub mod Patterns
