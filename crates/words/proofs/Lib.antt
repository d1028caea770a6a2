pub mod Frame
pub mod Copying
