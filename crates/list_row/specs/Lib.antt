pub mod Places
pub mod Vertices
pub mod Gaps
pub mod Entries
pub mod Alike
