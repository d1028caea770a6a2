pub mod Perms
