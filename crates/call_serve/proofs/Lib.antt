pub mod Recording
pub mod Carrying
pub mod Turns
