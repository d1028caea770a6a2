pub mod Testing
pub mod Pushing
pub mod Beating
pub mod Moving
pub mod Inserting
