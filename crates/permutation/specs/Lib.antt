pub mod Perm
