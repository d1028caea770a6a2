pub mod Restanding
pub mod Patching
