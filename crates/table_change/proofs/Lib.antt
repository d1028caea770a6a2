pub mod Struck
pub mod Indices
pub mod Relining
pub mod Accepting
