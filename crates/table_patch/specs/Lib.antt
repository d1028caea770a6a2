pub mod Patching
