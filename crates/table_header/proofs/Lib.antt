pub mod Legs
pub mod Zeros
pub mod Tours
