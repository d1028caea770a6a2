pub mod Witnesses
pub mod Dealing
pub mod Knowing
