pub mod Rooms
pub mod Halves
pub mod Grown
pub mod Upward
pub mod Raising
